-- Leases last, over whole runs: what is known of a healthy client's associations with its server holds after every event, so a lease is never as old as the
-- bound.
use Rattle.st_lemmas.proofs.Words
use Words.{◌≡◌, ℕ, ◌+◌, ◌*◌, ◌≤◌, ◌<◌, ◌⊎◌, Bool, true, false, List, [], ◌∷◌, ◌++◌, Option, Some, None, Ok, refl, sym, ap, ◌∙◌, subst, inl, inr, arith, is_some}
use Words.{append_assoc, length, map, nat_lt, unwrap_or, eqb-true, lt-leb, lt-ltb, ltb-false, ltb-true, Config, ClientId, ServerId, Stamp, Event, Message, ClientInput, Request, ServerInput, Session}
use Words.nodes
use Words.outputs
use Words.seen
use Words.inputs
use Words.Authority.{may_ack}
use Words.Client as cl
use Words.ClientState.{Association, ClientSession, ClientState}
use Words.Events.{WorldTurn, world_step}
use Words.Extents.{numbers}
use Words.Grace.{Grace, is_on}
use Words.History.{Traced, traced, traced_after}
use Words.Keys.{server_node}
use Words.Safety.{IsHead, Step, is_event, step}
use Words.Server as server
use Words.Server.{ServerNode}
use Words.Sessions as sessions
use Words.World.{World, WorldClient, clock_of, fresh_site, fresh_world, node_at_start, node_of, numbered, site_of, stamp}
use Words.Lists.{Has}
use Words.Lookups.{some_is}
use Words.Numbers.{numbered_below}
use Words.Tables.{has_map, has_map_in}
use Words.Truth.{not_both}
use Rattle.std.proofs.Math.Nat.{le-max_left}
use Rattle.st_lemmas.proofs.Steps.{step_happens}
use Rattle.st_laws_refine.specs.Server.Pair.{terms_of}
use Rattle.st_laws_refine.specs.Server.View.{Sound}
use Rattle.st_laws_refine.proofs.Server.Delivery.{sound_of}
use Rattle.st_laws_pages.proofs.Lives.Fresh.{fresh_is}
use Rattle.st_laws_steps.specs.Client.Losses.{Fit, is_ended}
use Rattle.st_laws_steps.specs.Lives.Lives.{Once, server_number}
use Rattle.st_laws_leases.specs.Dates.Dates.{Dated, is_from_client, messages}
use Rattle.st_laws_leases.specs.Sides.World.{ServerStands}
use Rattle.st_laws_leases.proofs.Dates.Law as dating_law
use Rattle.st_laws_leases.proofs.Dates.Steps as dating_steps
use Rattle.st_laws_requests.specs.Cuts.Cuts.{CutsHold, Numbers, view}
use Rattle.st_laws_requests.proofs.Cuts.Law as cuts_law
use Rattle.st_laws_waits.proofs.Events.{Done, stepped}
use Rattle.st_laws_waits.proofs.Events.Done.{Ticks, Receives, Waits, Stops, Starts}
use Rattle.st_laws_waits.proofs.Sending.{step_same}
use Rattle.st_laws_waits.proofs.Standing as standing
use Rattle.st_laws_waits.proofs.Standing.{Basic, basic2, change, step_grace, node_is}
use Rattle.st_laws_lasting.specs.Lasting.{client_clock, client_last_tick}
use Rattle.st_laws_lasting.proofs.Young as young_ones
use Rattle.st_laws_lasting.proofs.Young.{Ok_in, WasYoung, stand2}
use Rattle.st_laws_healthy.specs.Healthy.{ComeInTime, IsHealthy, LeasesLast, longest}
use Rattle.st_laws_healthy.proofs.ClientStanding.{IsNew}
use Rattle.st_laws_healthy.proofs.ClientTalks.{TalksOn, any_talks, client_talks}
use Rattle.st_laws_healthy.proofs.Happening.{AllRun, BothRun, Brings, BringsServer, ClientSteps, Happened, IsBroken, NeitherSteps, ServerSteps, happened}
use Rattle.st_laws_healthy.proofs.Numbers.{keeps_number, tells_number}
use Rattle.st_laws_healthy.proofs.Served.{IsBefore}
use Rattle.st_laws_healthy.proofs.ServerStanding.{IsSaid, TalksNext, serves_on}
use Rattle.st_laws_healthy.proofs.Stepping.{Told}
use Rattle.st_laws_healthy.proofs.Talking.{HasSession, IsAsking, IsCounting, Phase, Requested, Talks, talks_on}
use Rattle.st_laws_healthy.proofs.Trips.{Begun, InTime, in_time, more_began, none_began, none_flies, trip_ends}

-- a grace that is over stays over
still_off : (v : Option Grace) (a b : Stamp) → a.0 ≤ b.0 → is_on v a ≡ false → is_on v b ≡ false
still_off None a b l e = refl
still_off (Some y) a b l e = go (nat_lt b.0 (y.start.0 + y.wait)) refl
  where
    go : (v : Bool) → nat_lt b.0 (y.start.0 + y.wait) ≡ v → v ≡ false
    go false q = refl
    go true q = let z = ltb-true b.0 (y.start.0 + y.wait) q in let w = ltb-false a.0 (y.start.0 + y.wait) e in absurd (omega (arith, z, w, l))

-- associations with one server are the same
once_same : (al : List Association) → Once (map server_number al) → (a b : Association) → Has a al → Has b al → a.server.0 ≡ b.server.0 → a ≡ b
once_same [] o a b h i e = absurd h
once_same (x ∷ xs) o a b (inl p) (inl q) e = p ∙ sym q
once_same (x ∷ xs) o a b (inl p) (inr j) e = absurd (o.first (server_number b) (has_map_in server_number xs b j) (ap server_number (sym p) ∙ e))
once_same (x ∷ xs) o a b (inr j) (inl q) e = absurd (o.first (server_number a) (has_map_in server_number xs a j) (ap server_number (sym q) ∙ sym e))
once_same (x ∷ xs) o a b (inr i) (inr j) e = once_same xs o.rest a b i j e

module _ (k : Config) (count : ℕ) (c : ClientId) (s : ServerId) (gap d : ℕ) (read : World → ℕ) (delay : ℕ)
    (same_read : (v w : World) → v.clocks ≡ w.clocks → length v.clients ≡ length w.clients → read v ≡ read w) (earlier : List Step) where
  -- what holds after every event, except for what is known about the client's associations; the client has been healthy since some earlier steps
  pub record Base (past : List Step) (t : Traced) : Type 0 where
    pub cuts : CutsHold (earlier ++ past) t
    pub dated : Dated (earlier ++ past) t
    pub basic : Basic k count s (earlier ++ past) t
    pub young : Ok_in k c (client_last_tick c 0 past) t.world
    pub runs : AllRun c s t.world
    pub free : (node : ServerNode) → node_of t.world s ≡ Some node → may_ack node.state.authority c ≡ true
    pub off : (node : ServerNode) → node_of t.world s ≡ Some node → is_on node.state.grace (clock_of t.world (nodes.Server s)) ≡ false
    pub ticks : (site : WorldClient) (a : Association) (z : ClientSession) → site_of t.world c ≡ Some site → Has a site.node.state.associations →
        a.session ≡ Some z →
        client_clock c t.world ≤ client_last_tick c 0 past + gap
    pub in_time : InTime (client_clock c) c s d past (messages t.world) (client_clock c t.world)
    pub begun : Begun (client_clock c) c s d past (client_clock c t.world)
    pub in_time2 : InTime read c s delay past (messages t.world) (read t.world)
    pub begun2 : Begun read c s delay past (read t.world)

  -- what is known of the client's associations with the server
  abbrev pub AllTalk : List Step → World → Type 0
  AllTalk past w =
      (site : WorldClient) (node : ServerNode) → site_of w c ≡ Some site → node_of w s ≡ Some node → (a : Association) → Has a site.node.state.associations →
      a.server ≡ s → (since : ℕ) × Talks k c s gap d read delay since past (messages w) node.state (client_clock c w) a

  -- a lease without an outstanding request is young
  is_young : (last now : ℕ) → now ≤ last + gap → (z : ClientSession) → WasYoung k last (Some z) → z.lease.condemned ≡ false → z.requests.asked ≡ None →
      now < z.lease.date.0 + k.renew + gap
  is_young last now l z (inl (inl b)) n q = absurd (not_both z.lease.condemned b n)
  is_young last now l z (inl (inr b)) n q = absurd (no (sym (ap is_some q) ∙ b))
    where
      no : ◌≡◌ {A = Bool} false true → ⊥
      no w = cc
  is_young last now l z (inr y) n q = omega (arith, y, l)

  -- The age of a lease.
  module _ (past : List Step) (t : Traced) (o : Base past t) (talks : AllTalk past t.world) (node : ServerNode) (is : node_of t.world s ≡ Some node)
      (site : WorldClient) (a : Association) (z : ClientSession) (f : site_of t.world c ≡ Some site) (j : Has a site.node.state.associations)
      (at_a : a.server ≡ s) (q : a.session ≡ Some z) where
    abbrev present : ℕ
    present = client_clock c t.world

    abbrev since : ℕ
    since = (talks site node f is a j at_a).0

    known : Talks k c s gap d read delay since past (messages t.world) node.state present a
    known = (talks site node f is a j at_a).1

    p : HasSession k c s gap d read delay since past (messages t.world) node.state.sessions a.life.0 node.state.stable.epoch.0 known.last z
    p = subst (Phase k c s gap d read delay since past (messages t.world) node.state.sessions a.life.0 node.state.stable.epoch.0 known.last) q known.phase

    pub aged : (present < z.lease.date.0 + longest k gap d) × (z.lease.condemned ≡ false)
    aged = (by z.requests.asked refl p.requests, p.sound)
      where
        by : (r : Option Request) → z.requests.asked ≡ r →
            Requested k c s gap d read delay since past (messages t.world) a.life.0 node.state.stable.epoch.0 known.last z.lease.date.0 z.requests.next r →
            present < z.lease.date.0 + longest k gap d
        by None e r =
            let y = is_young (client_last_tick c 0 past) present (o.ticks site a z f j q) z
            (subst (WasYoung k (client_last_tick c 0 past)) q ((o.young.stands site f).young (o.runs.clients site f) a j)) p.sound e in
            let l = le-max_left (k.renew + gap) (2 * d + 1) in
            omega (arith, y, l)
        by (Some v) e r =
            let y = r.first.young in
            let l = trip_ends (client_clock c) c s d past (messages t.world) present
            (IsAsking k c s gap d a.life.0 node.state.stable.epoch.0 v.number v.body)
            (IsCounting k c s gap d a.life.0 node.state.stable.epoch.0 v.number v.body) r.first.from o.in_time r.first.trip in
            omega (arith, y, l)

  module _ (past : List Step) (t : Traced) (e : Event) (sc : WorldTurn) (o : Base past t) (ok : is_event count e ≡ true) (h : world_step t.world e ≡ Ok sc)
      (g : IsHealthy c s gap d past (step t e sc)) where
    abbrev x : Step
    x = step t e sc

    abbrev past2 : List Step
    past2 = past ++ x ∷ []

    abbrev M2 : List Message
    M2 = messages sc.world

    -- the earlier steps too
    abbrev whole : List Step
    whole = earlier ++ past

    same_whole : whole ++ x ∷ [] ≡ earlier ++ past2
    same_whole = append_assoc earlier past (x ∷ [])

    pub cuts2 : CutsHold (earlier ++ past2) (traced_after e t sc)
    cuts2 = subst (λ p. CutsHold p (traced_after e t sc)) same_whole (cuts_law.one whole t e sc o.cuts h).1

    pub dated2 : Dated (earlier ++ past2) (traced_after e t sc)
    dated2 = subst (λ p. Dated p (traced_after e t sc)) same_whole (dating_law.one whole t e sc o.dated h).1

    pub place : (1 ≤ c.0) × (c.0 ≤ 16)
    place = let z = numbered_below sc.world.clients c.0 g.site g.there in let y = z.1 in let w = dated2.few in (z.0, omega (arith, y, w))

    pub both : BothRun c s sc.world
    both = record { site = g.site; there = g.there; runs = g.runs; node = g.node; is = g.is; up = g.up }

    pub it : Happened whole t o.dated c s place.1 e sc
    it = happened whole t o.dated c s place.1 e sc h

    -- what became of the messages
    next : dating_steps.Next t e sc
    next = let z = step_happens t.world e sc h in subst (λ (y : WorldTurn). dating_steps.Next t e y) (sym z.1) (dating_steps.happens whole t o.dated e z.0)

    pub stays_sent : (m : Message) → Has m (messages t.world) → Has m M2
    stays_sent m i = next.old m i

    pub keeps : (i : ℕ) (m : Message) → numbered (messages t.world) i ≡ Some m → numbered M2 i ≡ Some m
    keeps i m q = keeps_number t.world e sc h i m q

    -- the server's epochs agree, and it keeps its number
    pub sepoch : (node : ServerNode) → node_of t.world s ≡ Some node → node.state.sessions.epoch ≡ node.state.stable.epoch
    sepoch node at = so.sepoch
      where
        z : ServerStands (terms_of k) t.world s.0 node
        z = o.basic.all.servers s.0 node at

        so : Sound 1 (terms_of k).wait (clock_of t.world (nodes.Server s)) node.state (z.ghosts 1)
        so = sound_of 1 (terms_of k).wait (clock_of t.world (nodes.Server s)) node.running node.state (z.ghosts 1) (o.runs.servers node at)
            (z.both.stands.served 1).stands

    -- what a step of the server leaves: its epoch and its grace, by a later clock
    pub record Left (node : ServerNode) : Type 0 where
      pub old : ServerNode
      pub was : node_of t.world s ≡ Some old
      pub grace : node.state.grace ≡ old.state.grace
      pub clock : (clock_of t.world (nodes.Server s)).0 ≤ (clock_of sc.world (nodes.Server s)).0
      pub epoch : (old : ServerNode) → node_of t.world s ≡ Some old → node.state.stable.epoch ≡ old.state.stable.epoch

    pub left : (node : ServerNode) → node_of sc.world s ≡ Some node → Left node
    left node f = go (change k count s whole t e sc o.basic ok h)
      where
        up : node.running ≡ true
        up = ap (λ (n : ServerNode). n.running) (some_is (sym f ∙ g.is)) ∙ g.up

        took : (old : ServerNode) (i : ServerInput) → node_of t.world s ≡ Some old → Rattle.st_laws_refine.specs.Server.Edits.WishInput i →
            node_of sc.world s ≡ Some (stepped old (clock_of t.world (nodes.Server s)) i) →
            clock_of sc.world (nodes.Server s) ≡ clock_of t.world (nodes.Server s) → Left node
        took old i at wish q clock =
            subst Left (some_is (sym q ∙ f))
            (record {
              old = old;
              was = at;
              grace = (step_grace old.state (clock_of t.world (nodes.Server s)) i wish).grace;
              clock = let z = ap (λ (y : Stamp). y.0) clock in omega (arith, z);
              epoch = λ y z. (step_same old.state (clock_of t.world (nodes.Server s)) i wish).epoch ∙ ap (λ (n : ServerNode). n.state.stable.epoch)
                  (some_is (sym at ∙ z));
            })

        go : Done s.0 t.world sc.world e → Left node
        go (Ticks old at runs is q clock) = took old Rattle.st_rules.specs.declared.input.ServerInput.TheVariants.Tick at tt q clock
        go (Receives old n m at runs is em to wish q clock) = took old (Rattle.st_rules.specs.declared.input.ServerInput.TheVariants.Control m.message) at
            wish q clock
        go (Waits same le q deaf) = record {
          old = node;
          was = sym same ∙ f;
          grace = refl;
          clock = le;
          epoch = λ y z. ap (λ (n : ServerNode). n.state.stable.epoch) (some_is (sym f ∙ same ∙ z));
        }
        go (Stops old at q) = absurd (not_both node.running up (sym (ap (λ (n : ServerNode). n.running) (some_is (sym q ∙ f)))))
        go (Starts old at off is q clock) = absurd (not_both old.running (o.runs.servers old at) off)

    -- so the server stays out of grace
    off2 : (node : ServerNode) → node_of sc.world s ≡ Some node → is_on node.state.grace (clock_of sc.world (nodes.Server s)) ≡ false
    off2 node f =
        let l = left node f in
        subst (λ (v : Option Grace). is_on v (clock_of sc.world (nodes.Server s)) ≡ false) (sym l.grace)
        (still_off l.old.state.grace (clock_of t.world (nodes.Server s)) (clock_of sc.world (nodes.Server s)) l.clock (o.off l.old l.was))

    young2 : Ok_in k c (client_last_tick c 0 past2) sc.world
    young2 = stand2 k c gap past t e sc o.young h

    abbrev before : ℕ
    before = client_clock c t.world

    abbrev after : ℕ
    after = client_clock c sc.world

    -- A step of the client.
    module _ (site old : WorldClient) (i : ClientInput) (now : Stamp) (is_now : now.0 ≡ before) (same : site.node ≡ old.node)
        (at : site_of t.world c ≡ Some old) (brings : Brings t.world e c.0 i)
        (deaf_server : Rattle.st_laws_healthy.proofs.Happening.Deaf t.world e (server_node s))
        (there : site_of sc.world c ≡ Some (Rattle.st_rules.specs.Events.at_node (record site.node
        { state = (cl.client_step site.node.state now i).state }) site))
        (nodes_same : node_of sc.world s ≡ node_of t.world s) (clocks : sc.world.clocks ≡ t.world.clocks)
        (many : length sc.world.clients ≡ length t.world.clients)
        (new : (m : Message) → Has m M2 → Has m (messages t.world) ⊎ Has (outputs.Send m) (cl.client_step site.node.state now i).out)
        (from : (m : Message) → Has (outputs.Send m) (cl.client_step site.node.state now i).out → m.header.from ≡ c.0)
        (said : (m : Message) → Has (outputs.Send m) (cl.client_step site.node.state now i).out → (n : ℕ) × Has (seen.Sent n m) sc.seen) where
      pub clock : after ≡ before
      clock = ap (λ ts. (unwrap_or (numbered ts c.0) (stamp 0)).0) clocks

      pub other_clock1 : read sc.world ≡ read t.world
      other_clock1 = same_read sc.world t.world clocks many

      abbrev pub st : ClientState
      st = site.node.state

      pub of_old : (P : cl.ClientNode → Type 0) → P old.node → P site.node
      of_old P p = subst P (sym same) p

      pub running : old.node.running ≡ true
      running = o.runs.clients old at

      pub fit : (a : Association) → Has a st.associations → Fit a
      fit = of_old (λ n. (a : Association) → Has a n.state.associations → Fit a) (o.young.stands old at).fits

      pub config : st.config ≡ k
      config = of_old (λ n. n.state.config ≡ k) (o.young.stands old at).config

      id_is : st.id ≡ c
      id_is = of_old (λ n. n.state.id ≡ c) (o.dated.clients c old at).id

      pub told : Told st now i fit i
      told = by i brings
        where
          by : (j : ClientInput) → Brings t.world e c.0 j → Told st now i fit j
          by inputs.Tick b = tt
          by (inputs.App op ask) b = tt
          by (inputs.Control m) b = b.1 ∙ ap (λ (y : ClientId). y.0) (sym id_is)
          by (inputs.Done n r) b = tt

      pub new_one : (m : Message) → Has m M2 → Has m (messages t.world) ⊎ IsNew c x M2 now.0 (λ m. Has (outputs.Send m) (cl.client_step st now i).out) m
      new_one m j = by (new m j)
        where
          say : Has (outputs.Send m) (cl.client_step st now i).out → Has m (messages t.world) ⊎ dating_steps.New t sc m →
              Has m (messages t.world) ⊎ IsNew c x M2 now.0 (λ m. Has (outputs.Send m) (cl.client_step st now i).out) m
          say q (inl y) = inl y
          say q (inr y) =
              inr (record {
                among = q;
                number = y.number;
                sent = y.sent;
                there = tells_number t.world e sc h y.number m y.sent;
                from = from m q;
                stamp = λ r. sym (eqb-true _ _ (y.client from_client r)) ∙ ap (λ n. client_clock (record { 0 = n }) t.world) (from m q) ∙ sym is_now;
              })
            where
              from_client : is_from_client m ≡ true
              from_client = lt-ltb m.header.from 32768 (let f = from m q in let l = place.1 in omega (arith, f, l))

          by : Has m (messages t.world) ⊎ Has (outputs.Send m) (cl.client_step st now i).out →
              Has m (messages t.world) ⊎ IsNew c x M2 now.0 (λ m. Has (outputs.Send m) (cl.client_step st now i).out) m
          by (inl y) = inl y
          by (inr q) = say q (next.new m j)

      young_now : (a : Association) → Has a st.associations → (z : ClientSession) → a.session ≡ Some z → z.lease.condemned ≡ false →
          z.requests.asked ≡ None → now.0 < z.lease.date.0 + k.renew + gap
      young_now a l z q n r =
          is_young (client_last_tick c 0 past) now.0
          (let y = of_old (λ n. (a : Association) → Has a n.state.associations → a.session ≡ Some z → before ≤ client_last_tick c 0 past + gap)
          (λ a l q. o.ticks old a z at l q) a l q in omega (arith, y, is_now)) z
          (subst (WasYoung k (client_last_tick c 0 past)) q (of_old (λ n. (a : Association) → Has a n.state.associations →
          WasYoung k (client_last_tick c 0 past) a.session) ((o.young.stands old at).young running) a l)) n r

      numbers_now : (a : Association) → Has a st.associations → Numbers (λ m. Has m (messages t.world)) c a.server a.life.0 (view a.session)
      numbers_now = of_old (λ n. (a : Association) → Has a n.state.associations → Numbers (λ m. Has m (messages t.world)) c a.server a.life.0 (view a.session))
          (λ a l. ((o.cuts.clients c old at).all running a l).numbers)

      numbers_then : (b : Association) → Has b (cl.client_step st now i).state.associations → Numbers (λ m. Has m M2) c b.server b.life.0 (view b.session)
      numbers_then a l = ((cuts2.clients c _ there).all (ap (λ (n : cl.ClientNode). n.running) same ∙ running) a l).numbers

      one_each : (a b : Association) → Has a (cl.client_step st now i).state.associations → Has b (cl.client_step st now i).state.associations →
          a.server.0 ≡ b.server.0 → a ≡ b
      one_each a y l r q = once_same (cl.client_step st now i).state.associations (cuts2.fates.lives.lives.sites c _ there).once a y l r q

      module _ (node : ServerNode) (talks : (a : Association) → Has a st.associations → a.server ≡ s →
          (since : ℕ) × Talks k c s gap d read delay since past (messages t.world) node.state now.0 a) (b : Association)
          (j : Has b (cl.client_step st now i).state.associations) (at_b : b.server ≡ s) where
        -- if the leases with the server last
        pub client_talks2 : ((a : Association) → Has a st.associations → a.server ≡ s → is_ended st.config now a.session ≡ false) →
            TalksOn k c s gap d read delay past past2 (messages t.world) M2 node.state now st i fit talks b
        client_talks2 ongoing =
            client_talks k c s gap d read delay place.1 past x t.world M2 stays_sent keeps now (clock ∙ sym is_now)
            (subst (InTime (client_clock c) c s d past (messages t.world)) (sym is_now) o.in_time)
            (subst (Begun (client_clock c) c s d past) (sym is_now) o.begun) (read sc.world) refl st i new_one fit config brings deaf_server node.state told
            talks young_now numbers_now numbers_then one_each ongoing b j at_b

        -- whether they last or not
        any_talks2 : (since : ℕ) × Talks k c s gap d read delay since past2 M2 node.state now.0 b
        any_talks2 =
            any_talks k c s gap d read delay place.1 past x t.world M2 stays_sent keeps now (clock ∙ sym is_now)
            (subst (InTime (client_clock c) c s d past (messages t.world)) (sym is_now) o.in_time)
            (subst (Begun (client_clock c) c s d past) (sym is_now) o.begun) (read sc.world) refl st i new_one fit config brings deaf_server node.state told
            talks young_now numbers_now numbers_then one_each b j at_b

      -- if the bound is at most the age at which leases are over, none is over
      pub open_leases : longest k gap d ≤ k.lease → AllTalk past t.world → (node : ServerNode) → node_of t.world s ≡ Some node →
          (a : Association) → Has a st.associations → a.server ≡ s → is_ended st.config now a.session ≡ false
      open_leases fits talks node is a j at_a = subst (λ kb. is_ended kb now a.session ≡ false) (sym config) (by a.session refl)
        where
          by : (v : Option ClientSession) → a.session ≡ v → is_ended k now v ≡ false
          by None q = refl
          by (Some z) q =
              lt-leb (z.lease.date.0 + k.lease) now.0
              (let y = (aged past t o talks node is old a z at (subst (λ (n : cl.ClientNode). Has a n.state.associations) same j) at_a q).0 in
              omega (arith, y, fits, is_now))

    -- A step of the server.
    module _ (old : ServerNode) (i : ServerInput) (at : node_of t.world s ≡ Some old) (brings : BringsServer t.world e (server_node s) i)
        (deaf : Rattle.st_laws_healthy.proofs.Happening.Deaf t.world e c.0)
        (there : node_of sc.world s ≡ Some (record old { state = (server.server_step old.state (clock_of t.world (nodes.Server s)) i).state }))
        (clocks : sc.world.clocks ≡ t.world.clocks) (many : length sc.world.clients ≡ length t.world.clients)
        (new : (m : Message) → Has m M2 → Has m (messages t.world) ⊎
        Has (outputs.Send m) (server.server_step old.state (clock_of t.world (nodes.Server s)) i).out)
        (from : (m : Message) → Has (outputs.Send m) (server.server_step old.state (clock_of t.world (nodes.Server s)) i).out → m.header.from ≡ server_node s)
        (told : (m : Message) → Has (outputs.Send m) (server.server_step old.state (clock_of t.world (nodes.Server s)) i).out →
        (n : ℕ) × Has (seen.Sent n m) sc.seen) where
      abbrev pub when : Stamp
      when = clock_of t.world (nodes.Server s)

      own_clock : after ≡ before
      own_clock = ap (λ ts. (unwrap_or (numbered ts c.0) (stamp 0)).0) clocks

      pub other_clock : read sc.world ≡ read t.world
      other_clock = same_read sc.world t.world clocks many

      still : may_ack (server.server_step old.state when i).state.authority c ≡ true
      still = subst (λ (y : ServerNode). may_ack y.state.authority c ≡ true) (some_is (sym g.is ∙ there)) g.free

      pub says : (m : Message) → Has (outputs.Send m) (server.server_step old.state when i).out → IsSaid s x M2 (server.server_step old.state when i).out m
      says m l = let z = told m l in record { among = l; number = z.0; sent = z.1; there = tells_number t.world e sc h z.0 m z.1; from = from m l }

      new_said : (m : Message) → Has m M2 → Has m (messages t.world) ⊎ IsSaid s x M2 (server.server_step old.state when i).out m
      new_said m l = by (new m l)
        where
          by : Has m (messages t.world) ⊎ Has (outputs.Send m) (server.server_step old.state when i).out →
              Has m (messages t.world) ⊎ IsSaid s x M2 (server.server_step old.state when i).out m
          by (inl y) = inl y
          by (inr y) = inr (says m y)

      pub server_talks2 : (site : WorldClient) → site_of t.world c ≡ Some site → (a : Association) → Has a site.node.state.associations → a.server ≡ s →
          (since : ℕ) (z : Talks k c s gap d read delay since past (messages t.world) old.state before a) →
          TalksNext k c s gap d read delay since past2 M2 i (server.server_step old.state when i).state after a z.last
      server_talks2 site f a j at_a since z =
          subst (λ n. TalksNext k c s gap d read delay since past2 M2 i (server.server_step old.state when i).state n a z.last) (sym own_clock)
          (serves_on k c s gap d read delay place.1 place.0 past x t.world M2 stays_sent keeps before own_clock o.in_time o.begun (read t.world) other_clock o.in_time2
          o.begun2 old.state when i (o.free old at) still
          (sepoch old at) (o.off old at) (o.cuts.servers s old at).id
          ((left _ there).epoch old at) brings deaf new_said says since a z
          (subst (λ y. Numbers (λ m. Has m (messages t.world)) c y a.life.0 (view a.session)) at_a
          ((o.cuts.clients c site f).all (o.runs.clients site f) a j).numbers))

    -- what is known after the event
    pub talks2 : AllTalk past t.world → Happened whole t o.dated c s place.1 e sc → AllTalk past2 sc.world
    talks2 talks (ClientSteps site0 old i now is_now same at brings deaf_server there nodes_same clocks many new from said) site node f q a j at_a =
        let z = any_talks2 site0 old i now is_now same at brings deaf_server there nodes_same clocks many new from said node
        (λ b l at_b. subst (λ n. (since : ℕ) × Talks k c s gap d read delay since past (messages t.world) node.state n b) (sym is_now)
        (of_old site0 old i now is_now same at brings deaf_server there nodes_same clocks many new from said
        (λ n. (a : Association) → Has a n.state.associations → a.server ≡ s →
        (since : ℕ) × Talks k c s gap d read delay since past (messages t.world) node.state before a)
        (talks old node at (sym nodes_same ∙ q)) b l at_b)) a (subst (λ (y : WorldClient). Has a y.node.state.associations) (some_is (sym f ∙ there)) j) at_a in (
          z.0,
          subst (λ n. Talks k c s gap d read delay z.0 past2 M2 node.state n a) (is_now ∙ sym (ap (λ ts. (unwrap_or (numbered ts c.0) (stamp 0)).0) clocks)) z.1,
        )
    talks2 talks (ServerSteps old i at brings deaf there sites clocks many new from told) site node f q a j at_a =
        let y = talks site old (sym sites ∙ f) at a j at_a in (
          y.0,
          subst (λ (v : ServerNode). Talks k c s gap d read delay y.0 past2 M2 v.state after a) (some_is (sym there ∙ q))
              (server_talks2 old i at brings deaf there clocks many new from told site (sym sites ∙ f) a j at_a y.0 y.1).known,
        )
    talks2 talks (NeitherSteps same nodes_same later2 deaf deaf_server new) site node f q a j at_a =
        let y = talks site node (sym same ∙ f) (sym nodes_same ∙ q) a j at_a in
        (y.0, (talks_on k c s gap d past x t.world M2 stays_sent keeps read delay y.0 node.state before after later2 deaf_server deaf new a y.1).0)
    talks2 talks (IsBroken b same fewer) site node f q a j at_a = absurd (b o.runs both)

    pub goes_on : Happened whole t o.dated c s place.1 e sc → before ≤ after
    goes_on (ClientSteps site old i now is_now same at brings deaf_server there nodes_same clocks many new from said) =
        let z : after ≡ before = ap (λ ts. (unwrap_or (numbered ts c.0) (stamp 0)).0) clocks in omega (arith, z)
    goes_on (ServerSteps old i at brings deaf there sites clocks many new from told) =
        let z : after ≡ before = ap (λ ts. (unwrap_or (numbered ts c.0) (stamp 0)).0) clocks in omega (arith, z)
    goes_on (NeitherSteps same nodes_same later2 deaf deaf_server new) = later2
    goes_on (IsBroken b same fewer) = absurd (b o.runs both)

    runs2 : AllRun c s sc.world
    runs2 = record {
      clients = λ site f. ap (λ (y : WorldClient). y.node.running) (some_is (sym f ∙ g.there)) ∙ g.runs;
      servers = λ node f. ap (λ (y : ServerNode). y.running) (some_is (sym f ∙ g.is)) ∙ g.up;
    }

    pub base2 : ComeInTime read c s delay past x → read t.world ≤ read sc.world → Base past2 (traced_after e t sc)
    base2 g2 later =
        record {
          cuts = cuts2;
          dated = dated2;
          basic = subst (λ p. Basic k count s p (traced_after e t sc)) same_whole (basic2 k count s whole t e sc o.basic ok h);
          young = young2;
          runs = runs2;
          free = λ node f. subst (λ (y : ServerNode). may_ack y.state.authority c ≡ true) (some_is (sym g.is ∙ f)) g.free;
          off = off2;
          ticks = λ site a z f j q. g.ticks;
          in_time = in_time (client_clock c) c s d past x M2 g.come;
          begun = more_began (client_clock c) c s d past x before o.begun (goes_on it);
          in_time2 = in_time read c s delay past x M2 g2;
          begun2 = more_began read c s delay past x (read t.world) o.begun2 later;
        }

    -- so the lease lasts
    pub lasts : Base past2 (traced_after e t sc) → AllTalk past2 sc.world → LeasesLast k c s gap d (earlier ++ past) x
    lasts o2 talks site a z f j at_a q = aged past2 (traced_after e t sc) o2 talks g.node g.is site a z f j at_a q

-- The start of a run.
no_timer : (k : Config) (servers disks blocks n : ℕ) (c : ClientId) → may_ack (node_at_start k servers disks blocks n).state.authority c ≡ true
unfolding server.fresh_server
no_timer k servers disks blocks n c = refl

pub no_grace : (k : Config) (servers disks blocks n : ℕ) → (node_at_start k servers disks blocks n).state.grace ≡ None
unfolding server.fresh_server
no_grace k servers disks blocks n = refl

pub no_sessions : (k : Config) (servers disks blocks n : ℕ) (c : ClientId) → sessions.session_of (node_at_start k servers disks blocks n).state.sessions c ≡ None
unfolding server.fresh_server
no_sessions k servers disks blocks n c = refl

starts_running : (k : Config) (servers disks blocks n : ℕ) → (node_at_start k servers disks blocks n).running ≡ true
starts_running k servers disks blocks n = refl

no_messages : (k : Config) (clients servers disks blocks form : ℕ) (m : Message) → Has m (messages (fresh_world k clients servers disks blocks form)) → ⊥
unfolding fresh_world
no_messages k clients servers disks blocks form m h = absurd h

pub fresh_client : (k : Config) (clients servers disks blocks form : ℕ) (c : ClientId) (site : WorldClient) →
    site_of (fresh_world k clients servers disks blocks form) c ≡ Some site →
    site ≡ fresh_site k servers c.0
unfolding fresh_world
fresh_client k clients servers disks blocks form c site e = fresh_is (fresh_site k servers) clients c.0 site e

fresh_association : (k : Config) (servers n : ℕ) (a : Association) → Has a (fresh_site k servers n).node.state.associations →
    (a.session ≡ None) × (a.greeting ≡ None)
unfolding cl.fresh_client
fresh_association k servers n a h = let z = has_map cl.fresh_association (numbers 1 servers) a h in
    (ap (λ (y : Association). y.session) z.2, ap (λ (y : Association). y.greeting) z.2)

fresh_runs : (k : Config) (servers n : ℕ) → (fresh_site k servers n).node.running ≡ true
fresh_runs k servers n = refl

module _ (k : Config) (clients servers disks blocks form : ℕ) (c : ClientId) (s : ServerId) (gap d : ℕ) (read : World → ℕ) (delay : ℕ)
    (same_read : (v w : World) → v.clocks ≡ w.clocks → length v.clients ≡ length w.clients → read v ≡ read w)
    (head : IsHead k clients servers disks blocks form) where
  abbrev w : World
  w = fresh_world k clients servers disks blocks form

  fresh : (site : WorldClient) (a : Association) → site_of w c ≡ Some site → Has a site.node.state.associations → (a.session ≡ None) × (a.greeting ≡ None)
  fresh site a f j = fresh_association k servers c.0 a (subst (λ (y : WorldClient). Has a y.node.state.associations)
      (fresh_client k clients servers disks blocks form c site f) j)

  pub starts : Base k (clients + servers) c s gap d read delay same_read [] [] (traced w)
  starts =
      record {
        cuts = cuts_law.fresh_holds k clients servers disks blocks form head;
        dated = dating_law.fresh_dated k clients servers disks blocks form head;
        basic = standing.begins k clients servers disks blocks form s head;
        young = young_ones.begins k clients servers disks blocks form c;
        runs = record {
          clients = λ site f. subst (λ (y : WorldClient). y.node.running ≡ true) (sym (fresh_client k clients servers disks blocks form c site f))
              (fresh_runs k servers c.0);
          servers = λ node f. subst (λ (y : ServerNode). y.running ≡ true) (sym (node_is k clients servers disks blocks form s node f))
              (starts_running k servers disks blocks s.0);
        };
        free = λ node f. subst (λ (y : ServerNode). may_ack y.state.authority c ≡ true) (sym (node_is k clients servers disks blocks form s node f))
            (no_timer k servers disks blocks s.0 c);
        off = λ node f. subst (λ (y : ServerNode). is_on y.state.grace (clock_of w (nodes.Server s)) ≡ false)
            (sym (node_is k clients servers disks blocks form s node f))
            (ap (λ (v : Option Grace). is_on v (clock_of w (nodes.Server s))) (no_grace k servers disks blocks s.0));
        ticks = λ site a z f j q. absurd (no_session z (sym (fresh site a f j).0 ∙ q));
        in_time = none_flies (client_clock c) c s d (messages w) (client_clock c w);
        begun = none_began (client_clock c) c s d (client_clock c w);
        in_time2 = none_flies read c s delay (messages w) (read w);
        begun2 = none_began read c s delay (read w);
      }
    where
      no_session : (z : ClientSession) → ◌≡◌ {A = Option ClientSession} None (Some z) → ⊥
      no_session z e = cc

  pub starts_talks : AllTalk k (clients + servers) c s gap d read delay same_read [] [] w
  starts_talks site node f q a j at_a = (
    0,
    record {
      last = 0;
      known = IsBefore (λ y v. absurd (none y (sym (subst (λ (n : ServerNode). sessions.session_of n.state.sessions c ≡ None)
          (sym (node_is k clients servers disks blocks form s node q)) (no_sessions k servers disks blocks s.0 c)) ∙ v))) refl;
      told = λ m v l. absurd (no_messages k clients servers disks blocks form m v);
      asked = λ m v l r. absurd (no_messages k clients servers disks blocks form m v);
      greets = λ r m v l. absurd (no_messages k clients servers disks blocks form m v);
      phase = subst (Phase k c s gap d read delay 0 [] (messages w) node.state.sessions a.life.0 node.state.stable.epoch.0 0) (sym (fresh site a f j).0)
          (λ m v l. absurd (no_messages k clients servers disks blocks form m v), refl);
    },
  )
    where
      none : (y : Session) → ◌≡◌ {A = Option Session} None (Some y) → ⊥
      none y e = cc

-- a client's clock is read at its place
pub own_read : (c : ClientId) (v w : World) → v.clocks ≡ w.clocks → length v.clients ≡ length w.clients → client_clock c v ≡ client_clock c w
own_read c v w e f = ap (λ ts. (unwrap_or (numbered ts c.0) (stamp 0)).0) e
