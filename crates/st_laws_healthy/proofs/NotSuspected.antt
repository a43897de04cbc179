-- Healthy clients aren't suspected, over whole runs: the invariant that says where the answer to each demand is holds after every event, and the answer comes
-- in time; so no tick of the server finds a demand unanswered for the demand time.
use Rattle.st_lemmas.proofs.Words
use Words.{◌≡◌, ℕ, ◌+◌, ◌*◌, ◌≤◌, ◌<◌, ◌⊎◌, Bool, true, false, ◌==◌, List, [], ◌∷◌, ◌++◌, Option, Some, None, Ok, refl, sym, ap, ◌∙◌, subst, inl, inr, arith, is_some}
use Words.{length, suc, unwrap_or, zero, eqb-true, Config, ClientId, GrantNo, ServerId, Stamp, Mode, Event, Message, HeldLock, LockRow, ClientInput}
use Words.{Request, SentMessage, ServerInput, Session}
use Words.nodes
use Words.events
use Words.bodies as bd
use Words.outputs
use Words.serving
use Words.seen
use Words.Authority.{may_ack}
use Words.Client as cl
use Words.ClientLocks.{lock_of}
use Words.ClientState.{Association, ClientSession, ClientState}
use Words.Events.{WorldTurn, world_step}
use Words.Extents.{numbers}
use Words.History.{Traced, traced, traced_after}
use Words.Keys.{server_node}
use Words.Locks.{row_of}
use Words.Safety.{IsHead, Step, is_event, step}
use Words.Server as server
use Words.Server.{ServerNode, server_step}
use Words.Sessions as sessions
use Words.World.{World, WorldClient, clock_of, fresh_site, fresh_world, message_of, node_at_start, node_of, numbered, site_of, stamp}
use Words.Lists.{Has}
use Words.Lookups.{some_is}
use Words.Numbers.{numbered_has}
use Words.Tables.{cond_either, has_map, has_map_in}
use Words.Truth.{not_both}
use Rattle.st_lemmas.proofs.Steps.{throughout_under}
use Rattle.st_laws_refine.specs.Server.Edits.{WishInput}
use Rattle.st_laws_refine.specs.Server.Pair.{terms_of}
use Rattle.st_laws_steps.specs.Client.Losses.{is_ended}
use Rattle.st_laws_leases.specs.Dates.Dates.{message_in, messages}
use Rattle.st_laws_leases.specs.Sides.World.{AllStand, ServerStands}
use Rattle.st_laws_leases.proofs.Sides.Pairs.{only_here}
use Rattle.st_laws_requests.specs.Cuts.Cuts.{Numbers, view}
use Rattle.st_laws_waits.specs.Causes.{Greeted, IsSuspectedFor, Silent}
use Rattle.st_laws_waits.specs.Waits.{received, received_in, server_clock}
use Rattle.st_laws_waits.proofs.Causes as causes
use Rattle.st_laws_waits.proofs.Events.{Done}
use Rattle.st_laws_waits.proofs.Events.Done.{Ticks, Receives, Waits, Stops, Starts}
use Rattle.st_laws_waits.proofs.Standing.{Facts, all2, change, facts, node_is, begins as starting}
use Rattle.st_laws_lasting.specs.Lasting.{client_clock}
use Rattle.st_laws_healthy.specs.Healthy.{HealthyClientsAreNotSuspected, InPromptRuns, IsHealthy, IsPrompt, longest}
use Rattle.st_laws_healthy.proofs.Answering.{Answered, answers_in_time, has_served, neither_answers, rounds}
use Rattle.st_laws_healthy.proofs.ClientAnswering.{IsUttered, client_answers}
use Rattle.st_laws_healthy.proofs.ClientTalks.{TalksOn}
use Rattle.st_laws_healthy.proofs.Given as given
use Rattle.st_laws_healthy.proofs.Happening.{BothRun, ClientSteps, Happened, IsBroken, NeitherSteps, ServerSteps, happened}
use Rattle.st_laws_healthy.proofs.Lasting as lasting
use Rattle.st_laws_healthy.proofs.Lasting.{Base, base2, client_talks2, server_talks2}
use Rattle.st_laws_healthy.proofs.Numbers.{keeps_number, tells_number}
use Rattle.st_laws_healthy.proofs.Served.{To}
use Rattle.st_laws_healthy.proofs.ServerAnswering.{server_answers}
use Rattle.st_laws_healthy.proofs.Talking.{Talks, talks_on}

-- a server's clock is read at its place
pub server_read : (s : ServerId) (v w : World) → v.clocks ≡ w.clocks → length v.clients ≡ length w.clients → server_clock s v ≡ server_clock s w
server_read s v w e f =
    ap (λ n. (unwrap_or (numbered v.clocks (n + s.0)) (stamp 0)).0) f ∙ ap (λ ts. (unwrap_or (numbered ts (length w.clients + s.0)) (stamp 0)).0) e

-- this many trips, and one before them
trips_are : (delay n : ℕ) → 2 * delay * (n + 1) ≡ 2 * delay + rounds delay n
trips_are delay zero = omega arith
trips_are delay (suc n) = let z = trips_are delay n in omega (arith, z)

-- what a server receives is among the messages
received_among : (s : ServerId) (v : World) (e : Event) (m : Message) → received s v e ≡ Some m → Has m (messages v) × (m.header.to ≡ server_node s)
received_among s v (events.Deliver n) m q = go (message_of v n) refl q
  where
    none_some : {P : Type 0} → ◌≡◌ {A = Option Message} None (Some m) → P
    none_some e = cc

    go : (o : Option SentMessage) → message_of v n ≡ o → received_in s o ≡ Some m → Has m (messages v) × (m.header.to ≡ server_node s)
    go None f g = none_some g
    go (Some y) f g =
        cond_either (λ z. z ≡ Some m → Has m (messages v) × (m.header.to ≡ server_node s)) (y.message.header.to == server_node s) (Some y.message) None
        (λ b j. (
          subst (λ (z : Message). Has z (messages v)) (some_is j) (has_map_in message_in v.net.messages y (numbered_has v.net.messages n y f)),
          ap (λ (z : Message). z.header.to) (sym (some_is j)) ∙ eqb-true y.message.header.to (server_node s) b,
        ))
        (λ b j. none_some j) g
received_among s v e m q = cc

module _ (k : Config) (count : ℕ) (c : ClientId) (s : ServerId) (gap d delay most : ℕ) (fits : longest k gap d ≤ k.lease)
    (patient : 2 * delay * (most + 1) < k.demand) where
  abbrev read : World → ℕ
  read = server_clock s

  abbrev KnownIn : List Step → Traced → Type 0
  KnownIn past t = Base k count c s gap d read delay (server_read s) [] past t

  -- what is known of the client's associations with the server, and where the answers to its demands are
  abbrev pub AllAnswered : List Step → World → Type 0
  AllAnswered past w =
      (site : WorldClient) (node : ServerNode) → site_of w c ≡ Some site → node_of w s ≡ Some node → (a : Association) → Has a site.node.state.associations →
      a.server ≡ s → (since : ℕ) × ((t : Talks k c s gap d read delay since past (messages w) node.state (client_clock c w) a) ×
      Answered c s read delay most past (messages w) node.state a.life.0 t.last a.session since)

  -- what holds after every event
  pub record Stand (past : List Step) (t : Traced) : Type 0 where
    pub base : KnownIn past t
    pub causes : causes.Stand k count s past t
    pub answered : AllAnswered past t.world
    pub calm : (node : ServerNode) → node_of t.world s ≡ Some node → node.state.grace ≡ None

  -- in a world: the client and the server
  module _ (w : World) (all : AllStand (terms_of k) count w) (node : ServerNode) (at : node_of w s ≡ Some node) (up : node.running ≡ true)
      (site : WorldClient) (there : site_of w c ≡ Some site) (runs : site.node.running ≡ true) where
    -- the association
    abbrev has : Rattle.st_laws_leases.specs.Sides.Invariants.Standing (terms_of k) s.0 c.0 site w.ended
        ((given.z (terms_of k) count w all s node at up c site there runs).ghosts c.0).net
    has = given.has (terms_of k) count w all s node at up c site there runs

    among : Has has.association site.node.state.associations
    among = subst (Has has.association) (sym has.sim.place.is) (middle has.sim.place.before has.sim.place.after)
      where
        middle : (xs ys : List Association) → Has has.association (xs ++ has.association ∷ ys)
        middle [] ys = inl refl
        middle (x ∷ xs) ys = inr (middle xs ys)

    -- it is the one with the server
    its : (a : Association) → Has a site.node.state.associations → a.server ≡ s → a ≡ has.association
    its a h e = only_here s.0 site.node.state.associations has.association has.sim.place a h (ap (λ (y : ServerId). server_node y) e)

  module _ (past : List Step) (t : Traced) (e : Event) (sc : WorldTurn) (o : Stand past t) (ok : is_event count e ≡ true) (h : world_step t.world e ≡ Ok sc)
      (g : IsPrompt c s gap d delay most past (step t e sc)) where
    abbrev x : Step
    x = step t e sc

    abbrev past2 : List Step
    past2 = past ++ x ∷ []

    abbrev all1 : AllStand (terms_of k) count t.world
    all1 = o.base.basic.all

    both : BothRun c s sc.world
    both = record { site = g.site; there = g.there; runs = g.runs; node = g.node; is = g.is; up = g.up }

    few_clients : c.0 ≤ 16
    few_clients =
        let z = Rattle.st_lemmas.proofs.Numbers.numbered_below sc.world.clients c.0 g.site g.there in
        let y = z.1 in
        let w = (Rattle.st_laws_leases.proofs.Dates.Law.one past t e sc o.base.dated h).1.few in
        omega (arith, y, w)

    it : Happened past t o.base.dated c s few_clients e sc
    it = happened past t o.base.dated c s few_clients e sc h

    facts_of : (node : ServerNode) → node_of t.world s ≡ Some node → Facts k count s node.state
    facts_of node at = facts k count s t.world all1 node at (o.base.runs.servers node at)

    -- The server suspects it at no step.
    module _ (old node : ServerNode) (at : node_of t.world s ≡ Some old) (f : node_of sc.world s ≡ Some node) (there : site_of t.world c ≡ Some g.site) where
      abbrev was_up : old.running ≡ true
      was_up = o.base.runs.servers old at

      abbrev has1 : Association
      has1 = (has t.world all1 old at was_up g.site there g.runs).association

      known : (since : ℕ) × ((y : Talks k c s gap d read delay since past (messages t.world) old.state (client_clock c t.world) has1) ×
          Answered c s read delay most past (messages t.world) old.state has1.life.0 y.last has1.session since)
      known = o.answered g.site old there at has1 (among t.world all1 old at was_up g.site there g.runs)
          (has t.world all1 old at was_up g.site there g.runs).sim.place.here

      client_is : (r : LockRow) → r.client.0 ≡ c.0 → r.client ≡ c
      client_is r q = ap (λ n. record { 0 = n }) q

      not_for : IsSuspectedFor k s c past x old → ⊥
      not_for (Greeted m r rec from body j own lower) =
          let y = received_among s t.world e m rec in
          let l = ((o.base.cuts.clients c g.site there).all g.runs has1 (among t.world all1 old at was_up g.site there g.runs)).numbers.lives m y.0
          (from, y.1 ∙ ap (λ (v : ServerId). server_node v) (sym (has t.world all1 old at was_up g.site there g.runs).sim.place.here)) in
          let q = facts_of old at in
          let b = (has_served c s (messages t.world) old.state has1.life.0 known.1.0.last known.1.0.known known.1.1.first known.1.1.born q.known q.row_lives r j
          (client_is r own)).1 in
          omega (arith, l, b, lower)
      not_for (Silent is r since j own asked unanswered late) =
          let y = answers_in_time k c s gap d read delay most past (messages t.world) old.state (client_clock c t.world) has1 known.0 known.1.0 known.1.1
          (server_clock s t.world) o.base.in_time2 r since j (client_is r own) asked in
          let n = trips_are delay most in
          omega (arith, y, late, n, patient)

      not_suspected : may_ack node.state.authority c ≡ true
      not_suspected = go (may_ack node.state.authority c) refl
        where
          go : (b : Bool) → may_ack node.state.authority c ≡ b → b ≡ true
          go true q = refl
          go false q = absurd (not_for (causes.cause k count s past t e sc o.causes ok h c old node at f (o.base.free old at) q))

    pub free2 : (node : ServerNode) → node_of sc.world s ≡ Some node → may_ack node.state.authority c ≡ true
    free2 node f = by it
      where
        by : Happened past t o.base.dated c s few_clients e sc → may_ack node.state.authority c ≡ true
        by (ClientSteps site old i now is_now same at brings deaf_server there nodes_same clocks many new from said) = o.base.free node (sym nodes_same ∙ f)
        by (ServerSteps old i at brings deaf there sites clocks many new from told) = not_suspected old node at f (sym sites ∙ g.there)
        by (NeitherSteps same nodes_same later deaf deaf_server new) = o.base.free node (sym nodes_same ∙ f)
        by (IsBroken b same fewer) = absurd (b o.base.runs both)

    healthy : IsHealthy c s gap d past x
    healthy =
        record {
          site = g.site;
          there = g.there;
          runs = g.runs;
          node = g.node;
          is = g.is;
          up = g.up;
          free = free2 g.node g.is;
          ticks = g.ticks;
          come = g.come;
        }

    -- the server's clock goes on
    later2 : read t.world ≤ read sc.world
    later2 = by (change k count s past t e sc o.base.basic ok h)
      where
        by : Done s.0 t.world sc.world e → read t.world ≤ read sc.world
        by (Ticks old at runs is q clock) = let z = ap (λ (y : Stamp). y.0) clock in omega (arith, z)
        by (Receives old n m at runs is em to wish q clock) = let z = ap (λ (y : Stamp). y.0) clock in omega (arith, z)
        by (Waits same le q deaf) = le
        by (Stops old at q) = absurd (not_both g.node.running g.up (sym (ap (λ (n : ServerNode). n.running) (some_is (sym q ∙ g.is)))))
        by (Starts old at off is q clock) = let z = ap (λ (y : Stamp). y.0) clock in omega (arith, z)

    after : KnownIn past2 (traced_after e t sc)
    after = base2 k count c s gap d read delay (server_read s) [] past t e sc o.base ok h healthy g.come_by_server later2

    it2 : Happened past t o.base.dated c s (lasting.place k count c s gap d read delay (server_read s) [] past t e sc o.base ok h healthy).1 e sc
    it2 = lasting.it k count c s gap d read delay (server_read s) [] past t e sc o.base ok h healthy

    stays_sent : (m : Message) → Has m (messages t.world) → Has m (messages sc.world)
    stays_sent = lasting.stays_sent k count c s gap d read delay (server_read s) [] past t e sc o.base ok h healthy

    keeps : (i : ℕ) (m : Message) → numbered (messages t.world) i ≡ Some m → numbered (messages sc.world) i ≡ Some m
    keeps i m q = keeps_number t.world e sc h i m q

    -- A step of the client.
    module _ (site old : WorldClient) (i : ClientInput) (now : Stamp) (is_now : now.0 ≡ client_clock c t.world) (same : site.node ≡ old.node)
        (at : site_of t.world c ≡ Some old) (brings : Rattle.st_laws_healthy.proofs.Happening.Brings t.world e c.0 i)
        (deaf_server : Rattle.st_laws_healthy.proofs.Happening.Deaf t.world e (server_node s))
        (there : site_of sc.world c ≡ Some (Rattle.st_rules.specs.Events.at_node (record site.node
        { state = (cl.client_step site.node.state now i).state }) site))
        (nodes_same : node_of sc.world s ≡ node_of t.world s) (clocks : sc.world.clocks ≡ t.world.clocks)
        (many : length sc.world.clients ≡ length t.world.clients)
        (new : (m : Message) → Has m (messages sc.world) → Has m (messages t.world) ⊎ Has (outputs.Send m) (cl.client_step site.node.state now i).out)
        (from : (m : Message) → Has (outputs.Send m) (cl.client_step site.node.state now i).out → m.header.from ≡ c.0)
        (said : (m : Message) → Has (outputs.Send m) (cl.client_step site.node.state now i).out → (n : ℕ) × Has (seen.Sent n m) sc.seen)
        (node : ServerNode) (q : node_of sc.world s ≡ Some node) (b : Association) (j : Has b (cl.client_step site.node.state now i).state.associations)
        (at_b : b.server ≡ s) where
      was : node_of t.world s ≡ Some node
      was = sym nodes_same ∙ q

      -- what is known at the client's reading
      abbrev KnownAt : ClientState → ℕ → Type 0
      KnownAt v n =
          (a : Association) → Has a v.associations → a.server ≡ s →
          (since : ℕ) × ((y : Talks k c s gap d read delay since past (messages t.world) node.state n a) ×
          Answered c s read delay most past (messages t.world) node.state a.life.0 y.last a.session since)

      knows : KnownAt site.node.state now.0
      knows =
          subst (KnownAt site.node.state) (sym is_now)
          (subst (λ (v : cl.ClientNode). KnownAt v.state (client_clock c t.world)) (sym same) (o.answered old node at was))

      abbrev talks : (a : Association) → Has a site.node.state.associations → a.server ≡ s →
          (since : ℕ) × Talks k c s gap d read delay since past (messages t.world) node.state now.0 a
      talks a l f = ((knows a l f).0, (knows a l f).1.0)

      abbrev fit : (a : Association) → Has a site.node.state.associations → Rattle.st_laws_steps.specs.Client.Losses.Fit a
      fit = lasting.fit k count c s gap d read delay (server_read s) [] past t e sc o.base ok h healthy site old i now is_now same at brings deaf_server there
          nodes_same clocks many new from said

      on : TalksOn k c s gap d read delay past past2 (messages t.world) (messages sc.world) node.state now site.node.state i fit talks b
      on = client_talks2 k count c s gap d read delay (server_read s) [] past t e sc o.base ok h healthy site old i now is_now same at brings deaf_server there
          nodes_same clocks many new from said node talks b j at_b
          (lasting.open_leases k count c s gap d read delay (server_read s) [] past t e sc o.base ok h healthy site old i now is_now same at brings deaf_server there
          nodes_same clocks many new from said fits (λ v n f y a l at_a. let z = o.answered v n f y a l at_a in (z.0, z.1.0)) node was)

      up : node.running ≡ true
      up = o.base.runs.servers node was

      runs : old.node.running ≡ true
      runs = o.base.runs.clients old at

      -- the association before the step
      its_was : on.was ≡ (has t.world all1 node was up old at runs).association
      its_was = its t.world all1 node was up old at runs on.was (subst (λ (v : cl.ClientNode). Has on.was v.state.associations) same on.among) on.at_was

      q1 : Facts k count s node.state
      q1 = facts_of node was

      covered : (z : ClientSession) → on.was.session ≡ Some z → (ino : ℕ) (l : HeldLock) → lock_of z.locks ino ≡ Some l → (r : LockRow) →
          row_of node.state.locks c ino ≡ Some r → l.g.0 ≤ r.g.0
      covered z f ino l u r v =
          given.held_covered (terms_of k) count t.world all1 s node was up c old at runs z (ap (λ (a : Association). a.session) (sym its_was) ∙ f)
          p.epoch_is p.served.session p.served.is (p.served.of_life ∙ ap (λ (a : Association). a.life.0) its_was) lasts ino l u r v
        where
          p : Rattle.st_laws_healthy.proofs.Talking.HasSession k c s gap d read delay (talks on.was on.among on.at_was).0 past (messages t.world) node.state.sessions
              on.was.life.0 node.state.stable.epoch.0 (talks on.was on.among on.at_was).1.last z
          p = Rattle.st_laws_healthy.proofs.Answering.session_known k c s gap d read delay most past (messages t.world) node.state now.0 on.was
              (talks on.was on.among on.at_was).0 (talks on.was on.among on.at_was).1 z f

          config : site.node.state.config ≡ k
          config = lasting.config k count c s gap d read delay (server_read s) [] past t e sc o.base ok h healthy site old i now is_now same at brings
              deaf_server there nodes_same clocks many new from said

          lasts : (clock_of t.world (nodes.Client c)).0 < z.lease.date.0 + k.lease
          lasts =
              let y = Rattle.std.proofs.lemmas.Bool.leb-false (z.lease.date.0 + site.node.state.config.lease) now.0
              (ap (is_ended site.node.state.config now) (sym f) ∙ on.lasts) in
              let a = ap (λ (kb : Config). kb.lease) config in
              omega (arith, y, a, is_now)

      met : (r : LockRow) → Has r node.state.locks.rows → r.client ≡ c → r.life.0 ≡ on.was.life.0 → is_some on.was.session ≡ true
      met r u own l =
          ap (λ (a : Association). is_some a.session) its_was
          ∙ given.row_met (terms_of k) count t.world all1 s node was up c old at runs r.ino r
          (subst (λ y. row_of node.state.locks y r.ino ≡ Some r) own (Rattle.st_laws_refine.proofs.Server.OneRow.row_found node.state.locks q1.once r u))
          (l ∙ ap (λ (a : Association). a.life.0) its_was)

      few : (v : ClientSession) → b.session ≡ Some v → length v.releases ≤ most
      few v f = g.few (Rattle.st_rules.specs.Events.at_node (record site.node { state = (cl.client_step site.node.state now i).state }) site) b v there j at_b f

      clock : client_clock c sc.world ≡ now.0
      clock = ap (λ ts. (unwrap_or (numbered ts c.0) (stamp 0)).0) clocks ∙ sym is_now

      pub client_knows : (since : ℕ) × ((y : Talks k c s gap d read delay since past2 (messages sc.world) node.state (client_clock c sc.world) b) ×
          Answered c s read delay most past2 (messages sc.world) node.state b.life.0 y.last b.session since)
      client_knows =
          subst (λ n. (since : ℕ) × ((y : Talks k c s gap d read delay since past2 (messages sc.world) node.state n b) ×
          Answered c s read delay most past2 (messages sc.world) node.state b.life.0 y.last b.session since)) (sym clock) (
            on.since,
            (
              on.known,
              client_answers k c s gap d read delay most past x t.world (messages sc.world) stays_sent keeps node.state now site.node.state i fit talks brings deaf_server
                  (id_is old at) (λ m l. utters m l) (read t.world) (server_read s sc.world t.world clocks many) o.base.in_time2 begun q1.known q1.once
                  q1.row_lives b on (knows on.was on.among on.at_was).1.1 few covered met,
            ),
          )
        where
          id_is : (old : WorldClient) → site_of t.world c ≡ Some old → site.node.state.id ≡ c
          id_is v f = subst (λ (y : cl.ClientNode). y.state.id ≡ c) (sym same) (o.base.dated.clients c old at).id

          utters : (m : Message) → Has (outputs.Send m) (cl.client_step site.node.state now i).out → IsUttered x (messages sc.world) m
          utters m l = let z = said m l in record { number = z.0; sent = z.1; there = tells_number t.world e sc h z.0 m z.1 }

          begun : Rattle.st_laws_healthy.proofs.Trips.Begun read c s delay past2 (read t.world)
          begun = subst (Rattle.st_laws_healthy.proofs.Trips.Begun read c s delay past2) (server_read s sc.world t.world clocks many) after.begun2

    -- what the server's clock shows before the event
    abbrev when : Stamp
    when = clock_of t.world (nodes.Server s)

    -- A step of the server.
    server_knows : (old : ServerNode) (i : ServerInput) (at : node_of t.world s ≡ Some old)
        (brings : Rattle.st_laws_healthy.proofs.Happening.BringsServer t.world e (server_node s) i)
        (deaf : Rattle.st_laws_healthy.proofs.Happening.Deaf t.world e c.0)
        (there : node_of sc.world s ≡ Some (record old { state = (server_step old.state (clock_of t.world (nodes.Server s)) i).state }))
        (clocks : sc.world.clocks ≡ t.world.clocks) (many : length sc.world.clients ≡ length t.world.clients)
        (new : (m : Message) → Has m (messages sc.world) → Has m (messages t.world) ⊎
        Has (outputs.Send m) (server_step old.state (clock_of t.world (nodes.Server s)) i).out)
        (from : (m : Message) → Has (outputs.Send m) (server_step old.state (clock_of t.world (nodes.Server s)) i).out → m.header.from ≡ server_node s)
        (told : (m : Message) → Has (outputs.Send m) (server_step old.state (clock_of t.world (nodes.Server s)) i).out → (n : ℕ) × Has (seen.Sent n m) sc.seen)
        (site : WorldClient) → site_of t.world c ≡ Some site → (a : Association) → Has a site.node.state.associations → a.server ≡ s →
        (since : ℕ) × ((y : Talks k c s gap d read delay since past2 (messages sc.world)
        (server_step old.state (clock_of t.world (nodes.Server s)) i).state (client_clock c sc.world) a) ×
        Answered c s read delay most past2 (messages sc.world) (server_step old.state (clock_of t.world (nodes.Server s)) i).state a.life.0 y.last a.session since)
    server_knows old i at brings deaf there clocks many new from told site f a j at_a = (
      y.0,
      (
        next.known,
        server_answers k c s gap d read delay most few_clients some past x t.world (messages sc.world) stays_sent keeps old.state when i wish
            (server_read s sc.world t.world clocks many) (o.base.free old at) still sepoch (o.calm old at) (o.base.cuts.servers s old at).id
            (left.epoch old at) brings deaf says q1.known q1.once q1.row_lives q2.known q2.once q2.row_lives born_in a y.0 (client_clock c t.world) y.1.0 numbers
            asked_given (client_clock c sc.world) next y.1.1,
      ),
    )
      where
        y : (since : ℕ) × ((z : Talks k c s gap d read delay since past (messages t.world) old.state (client_clock c t.world) a) ×
            Answered c s read delay most past (messages t.world) old.state a.life.0 z.last a.session since)
        y = o.answered site old f at a j at_a

        some : 1 ≤ c.0
        some = (lasting.place k count c s gap d read delay (server_read s) [] past t e sc o.base ok h healthy).0

        next : Rattle.st_laws_healthy.proofs.ServerStanding.TalksNext k c s gap d read delay y.0 past2 (messages sc.world) i (server_step old.state when i).state
            (client_clock c sc.world) a y.1.0.last
        next = server_talks2 k count c s gap d read delay (server_read s) [] past t e sc o.base ok h healthy old i at brings deaf there clocks many new from told
            site f a j at_a y.0 y.1.0

        up : old.running ≡ true
        up = o.base.runs.servers old at

        runs : site.node.running ≡ true
        runs = o.base.runs.clients site f

        z : ServerStands (terms_of k) t.world s.0 old
        z = all1.servers s.0 old at

        left : lasting.Left k count c s gap d read delay (server_read s) [] past t e sc o.base ok h healthy
            (record old { state = (server_step old.state when i).state })
        left = lasting.left k count c s gap d read delay (server_read s) [] past t e sc o.base ok h healthy _ there

        sepoch : old.state.sessions.epoch ≡ old.state.stable.epoch
        sepoch = lasting.sepoch k count c s gap d read delay (server_read s) [] past t e sc o.base ok h healthy old at

        still : may_ack (server_step old.state when i).state.authority c ≡ true
        still = free2 (record old { state = (server_step old.state when i).state }) there

        says : (m : Message) → Has (outputs.Send m) (server_step old.state when i).out →
            Rattle.st_laws_healthy.proofs.ServerStanding.IsSaid s x (messages sc.world) (server_step old.state when i).out m
        says = lasting.says k count c s gap d read delay (server_read s) [] past t e sc o.base ok h healthy old i at brings deaf there clocks many new from told

        q1 : Facts k count s old.state
        q1 = facts_of old at

        q2 : Facts k count s (server_step old.state when i).state
        q2 = facts k count s sc.world (all2 k count s past t e sc o.base.basic ok h) (record old { state = (server_step old.state when i).state }) there up

        -- a message of the client to the server
        received_by : (m : Message) → Has m (messages t.world) → m.header.to ≡ server_node s → m.header.from ≡ c.0 →
            Rattle.st_laws_refine.specs.Views.Messages.Received m.header m.body (z.ghosts c.0).net
        received_by m l v u = by (has_map message_in t.world.net.messages m l)
          where
            by : (p : SentMessage) × Has p t.world.net.messages × (m ≡ message_in p) →
                Rattle.st_laws_refine.specs.Views.Messages.Received m.header m.body (z.ghosts c.0).net
            by (p, w, is) =
                subst (λ (y : Message). Rattle.st_laws_refine.specs.Views.Messages.Received y.header y.body (z.ghosts c.0).net) (sym is)
                (((z.both.stands.served c.0).wires p w).to_server (ap (λ (y : Message). y.header.to) (sym is) ∙ v)
                (ap (λ (y : Message). server.is_client_node y.header.from) (sym is) ∙ client_node m u) (ap (λ (y : Message). y.header.from) (sym is) ∙ u))
              where
                client_node : (m : Message) → m.header.from ≡ c.0 → server.is_client_node m.header.from ≡ true
                client_node m u =
                    Rattle.st_lemmas.proofs.Tables.and_both (Rattle.std.specs.Prelude.nat_le 1 m.header.from) (Rattle.std.specs.Prelude.nat_le m.header.from 16)
                    (Rattle.std.proofs.lemmas.Bool.le-leb 1 m.header.from (let s = some in omega (arith, u, s)))
                    (Rattle.std.proofs.lemmas.Bool.le-leb m.header.from 16 (let f = few_clients in omega (arith, u, f)))

        born_in : (m : Message) → Has m (messages t.world) → To c s m → 1 ≤ m.header.life
        born_in m l v = (received_by m l v.to v.from).born

        wish : WishInput i
        wish = by i brings
          where
            by : (n : ServerInput) → Rattle.st_laws_healthy.proofs.Happening.BringsServer t.world e (server_node s) n → WishInput n
            by serving.Tick b = tt
            by (serving.Control m) b = λ u. wish_in m (delivered m b.0) b.1 u
              where
                delivered : (m : Message) → Rattle.st_laws_healthy.proofs.Happening.Delivers t.world e m → Has m (messages t.world)
                delivered m v = subst (λ (y : Message). Has y (messages t.world)) (sym v.is)
                    (has_map_in message_in t.world.net.messages v.sent (numbered_has t.world.net.messages v.number v.sent v.there))

                wish_in : (m : Message) → Has m (messages t.world) → m.header.to ≡ server_node s → server.is_client_node m.header.from ≡ true →
                    Rattle.st_laws_refine.specs.Server.Edits.Wish m.body
                wish_in m l v u = of (has_map message_in t.world.net.messages m l)
                  where
                    of : (p : SentMessage) × Has p t.world.net.messages × (m ≡ message_in p) → Rattle.st_laws_refine.specs.Server.Edits.Wish m.body
                    of (p, w, is) =
                        subst (λ (y : Message). Rattle.st_laws_refine.specs.Server.Edits.Wish y.body) (sym is)
                        (Rattle.st_laws_refine.proofs.Server.Runs.wish_of (message_in p).body
                        (((z.both.stands.served (message_in p).header.from).wires p w).to_server (ap (λ (y : Message). y.header.to) (sym is) ∙ v)
                        (ap (λ (y : Message). server.is_client_node y.header.from) (sym is) ∙ u) refl).wishes)

        numbers : Numbers (λ m. Has m (messages t.world)) c s a.life.0 (view a.session)
        numbers = subst (λ v. Numbers (λ m. Has m (messages t.world)) c v a.life.0 (view a.session)) at_a ((o.base.cuts.clients c site f).all runs a j).numbers

        asked_given : (v : ClientSession) (q : Request) → a.session ≡ Some v → v.requests.asked ≡ Some q → (ino : ℕ) (g : GrantNo) (to : Mode) →
            q.body ≡ bd.Released ino g to → g.0 ≤ given.given old.state
        asked_given v q l u ino g to b =
            given.asked_given (terms_of k) count t.world all1 s old at up c site f runs v
            (ap (λ (w : Association). w.session) (sym (its t.world all1 old at up site f runs a j at_a)) ∙ l) q u ino g to b

    -- what is known after the event
    answered2 : Happened past t o.base.dated c s
        (lasting.place k count c s gap d read delay (server_read s) [] past t e sc o.base ok h healthy).1 e sc → AllAnswered past2 sc.world
    answered2 (ClientSteps site0 old i now is_now same at brings deaf_server there nodes_same clocks many new from said) site node f q a j at_a =
        client_knows site0 old i now is_now same at brings deaf_server there nodes_same clocks many new from said node q a
        (subst (λ (y : WorldClient). Has a y.node.state.associations) (some_is (sym f ∙ there)) j) at_a
    answered2 (ServerSteps old i at brings deaf there sites clocks many new from told) site node f q a j at_a =
        subst (λ (v : ServerNode). (since : ℕ) × ((y : Talks k c s gap d read delay since past2 (messages sc.world) v.state (client_clock c sc.world) a) ×
        Answered c s read delay most past2 (messages sc.world) v.state a.life.0 y.last a.session since)) (some_is (sym there ∙ q))
        (server_knows old i at brings deaf there clocks many new from told site (sym sites ∙ f) a j at_a)
    answered2 (NeitherSteps same nodes_same later3 deaf deaf_server new) site node f q a j at_a =
        let y = o.answered site node (sym same ∙ f) (sym nodes_same ∙ q) a j at_a in
        let z = talks_on k c s gap d past x t.world (messages sc.world) stays_sent keeps read delay y.0 node.state (client_clock c t.world) (client_clock c sc.world)
        later3 deaf_server deaf new a y.1.0 in (
          y.0,
          (
            z.0,
            neither_answers k c s gap d read delay most past x t.world (messages sc.world) stays_sent keeps deaf_server deaf node.state a.life.0 z.0.last
                a.session y.0 (subst (λ l. Answered c s read delay most past (messages t.world) node.state a.life.0 l a.session y.0) (sym z.1) y.1.1),
          ),
        )
    answered2 (IsBroken b same fewer) site node f q a j at_a = absurd (b o.base.runs both)

    pub stands : Stand past2 (traced_after e t sc)
    stands = record {
      base = after;
      causes = causes.stand2 k count s past t e sc o.causes ok h;
      answered = answered2 it2;
      calm = λ node f. let l = lasting.left k count c s gap d read delay (server_read s) [] past t e sc o.base ok h healthy node f in l.grace ∙ o.calm l.old l.was;
    }

-- The start of a run.
no_rows : (k : Config) (servers disks blocks n : ℕ) (r : LockRow) → Has r (node_at_start k servers disks blocks n).state.locks.rows → ⊥
unfolding server.fresh_server
no_rows k servers disks blocks n r h = absurd h

first_life : (k : Config) (servers n : ℕ) (a : Association) → Has a (fresh_site k servers n).node.state.associations → (a.session ≡ None) × (a.life.0 ≡ 1)
unfolding cl.fresh_client
first_life k servers n a h = let z = has_map cl.fresh_association (numbers 1 servers) a h in
    (ap (λ (y : Association). y.session) z.2, ap (λ (y : Association). y.life.0) z.2)

module _ (k : Config) (clients servers disks blocks form : ℕ) (c : ClientId) (s : ServerId) (gap d delay most : ℕ) (fits : longest k gap d ≤ k.lease)
    (patient : 2 * delay * (most + 1) < k.demand) (head : IsHead k clients servers disks blocks form) where
  abbrev w : World
  w = fresh_world k clients servers disks blocks form

  rows : (node : ServerNode) → node_of w s ≡ Some node → (r : LockRow) → Has r node.state.locks.rows → ⊥
  rows node f r h = no_rows k servers disks blocks s.0 r
      (subst (λ (n : ServerNode). Has r n.state.locks.rows) (node_is k clients servers disks blocks form s node f) h)

  answered : AllAnswered k (clients + servers) c s gap d delay most fits patient [] w
  answered site node f q a j at_a = (y.0, (y.1, answer))
    where
      y : (since : ℕ) × Talks k c s gap d (server_clock s) delay since [] (messages w) node.state (client_clock c w) a
      y = lasting.starts_talks k clients servers disks blocks form c s gap d (server_clock s) delay (server_read s) head site node f q a j at_a

      fresh : (a.session ≡ None) × (a.life.0 ≡ 1)
      fresh = first_life k servers c.0 a (subst (λ (v : WorldClient). Has a v.node.state.associations)
          (lasting.fresh_client k clients servers disks blocks form c site f) j)

      none : (z : ClientSession) → a.session ≡ Some z → ⊥
      none z e = no (sym fresh.0 ∙ e)
        where
          no : ◌≡◌ {A = Option ClientSession} None (Some z) → ⊥
          no v = cc

      no_session : (z : Session) → sessions.session_of node.state.sessions c ≡ Some z → ⊥
      no_session z e =
          no (sym (subst (λ (n : ServerNode). sessions.session_of n.state.sessions c ≡ None)
          (sym (node_is k clients servers disks blocks form s node q)) (lasting.no_sessions k servers disks blocks s.0 c)) ∙ e)
        where
          no : ◌≡◌ {A = Option Session} None (Some z) → ⊥
          no v = cc

      answer : Answered c s (server_clock s) delay most [] (messages w) node.state a.life.0 y.1.last a.session y.0
      answer =
          record {
            first = fresh.1;
            born = λ z e. absurd (no_session z e);
            rests = λ z e n. absurd (none z e);
            unserved = λ z x e n r h own b. absurd (none z e);
            answers = λ r at h own e. absurd (rows node q r h);
          }

  pub begins : Stand k (clients + servers) c s gap d delay most fits patient [] (traced w)
  begins =
      record {
        base = lasting.starts k clients servers disks blocks form c s gap d (server_clock s) delay (server_read s) head;
        causes = record {
          basic = starting k clients servers disks blocks form s head;
          asks = λ node f runs r since j. absurd (rows node f r j);
        };
        answered = answered;
        calm = λ node f. subst (λ (y : ServerNode). y.state.grace ≡ None) (sym (node_is k clients servers disks blocks form s node f))
            (lasting.no_grace k servers disks blocks s.0);
      }

-- In every run in which a client is prompt.
pub not_suspected_law : InPromptRuns HealthyClientsAreNotSuspected
not_suspected_law k clients servers disks blocks form es c s gap d delay most head all fits patient =
    throughout_under (clients + servers) (IsPrompt c s gap d delay most) (HealthyClientsAreNotSuspected c s)
    (Stand k (clients + servers) c s gap d delay most fits patient)
    (λ past t e sc ok o h g. (
      free2 k (clients + servers) c s gap d delay most fits patient past t e sc o ok h g,
      stands k (clients + servers) c s gap d delay most fits patient past t e sc o ok h g,
    )) es all [] (traced (fresh_world k clients servers disks blocks form))
    (begins k clients servers disks blocks form c s gap d delay most fits patient head)
