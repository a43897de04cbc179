-- Leases last, over whole runs of the third form: what is known of a healthy client's associations with its server holds after every event.
use Rattle.st_lemmas.proofs.Words
use Words.{◌≡◌, ℕ, ◌+◌, ◌*◌, ◌≤◌, ◌<◌, ◌⊎◌, Bool, true, false, List, [], ◌∷◌, ◌++◌, map, map-append, Option, Some, None, refl, sym, ap, ◌∙◌, subst}
use Words.{inl, inr, arith}
use Words.{◌≢◌, is_some, option_map, length, nat_le, le-leb, lt-leb, nat_lt, ltb-true, ltb-false, pred, unwrap_or, Life, ClientId, ClientInput}
use Words.{Config, Event, Message, Output}
use Words.{Request, ServerId, Stamp, WorldRefusal}
use Words.nodes
use Words.outputs
use Words.seen
use Words.Authority.{may_ack}
use Words.Client as cl
use Words.ClientState.{Association, ClientSession}
use Words.Events as ev
use Words.Extents.{numbers}
use Words.Keys.{server_node}
use Words.Grace.{Grace, is_on}
use Words.Lists.{Has}
use Words.Lookups.{some_is}
use Words.Numbers.{numbered_below, numbered_has, numbered_own, set_length}
use Words.Safety.{Step}
use Words.Server as server
use Words.Server.{ServerNode, ServerState, ServerTurn}
use Words.Sessions as sessions
use Words.Tables.{and_both}
use Words.Truth.{not_both}
use Words.World.{World, WorldClient, clock_of, fresh_site, fresh_world, node_at_start, node_of, numbered, site_of, stamp}
use Rattle.std.proofs.Math.Nat.{le-max_left}
use Rattle.st_laws_pages.proofs.Lives.Fresh.{fresh_is}
use Rattle.st_laws_lasting.specs.Lasting.{client_clock, client_last_tick}
use Rattle.st_laws_lasting.proofs.Young.{WasYoung}
use Rattle.st_laws_leases.specs.Dates.Dates.{messages}
use Rattle.st_laws_leases.proofs.Dates.Leaving.{has_numbered}
use Rattle.st_laws_requests.specs.Cuts.Cuts.{Between, Numbers, SentIn, view}
use Rattle.st_laws_healthy.specs.Healthy.{IsHealthy, LeasesLast, NoneIsLost, longest}
use Rattle.st_laws_steps.specs.Client.Losses.{is_ended}
use Rattle.st_laws_healthy.proofs.ClientStanding.{IsNew}
use Rattle.st_laws_healthy.proofs.Happening.{AllRun, BothRun}
use Rattle.st_laws_healthy.proofs.Numbers.{keeps_place, tells_place}
use Rattle.st_laws_healthy.proofs.Served.{IsBefore}
use Rattle.st_laws_healthy.proofs.ServerStanding.{IsSaid, serves_on_of}
use Rattle.st_laws_healthy.proofs.Talking.{HasSession, IsAsking, IsCounting, Phase, Requested, talks_on}
use Rattle.st_laws_healthy.proofs.Trips.{Begun, InTime, in_time, more_began, none_began, none_flies, trip_ends}
use Rattle.st_laws_suspicions.proofs.MessageNumbers.{ThirdTold, third_tells}
use Rattle.st_laws_third.specs.FirstPromises.{Plainly}
use Rattle.st_laws_third.proofs.EventWalk.{Client_step, Server_step}
use Rattle.st_laws_third.proofs.Sound.{numbered_map}
use Rattle.st_third.specs.declared.event.ThirdEvent.{ThirdEvent}
use Rattle.st_third.specs.declared.event.ThirdInput.{ThirdInput}
use Rattle.st_third.specs.declared.limits.Limits.{Limits}
use Rattle.st_third.specs.declared.observation.ThirdObservation.{ThirdObservation}
use Rattle.st_third.specs.declared.observation.ThirdObservation.TheVariants as third_seen
use Rattle.st_third.specs.declared.output.ThirdOutput.{ThirdOutput}
use Rattle.st_rules.specs.declared.observation.Observation.{Observation}
use Rattle.st_laws_third.proofs.Told as told
use Rattle.st_laws_third.proofs.Told.{Answers, ByClient, ByFate, ByServer, Cuts, IsFate, IsUnsynced, Leases, Loses, Patches, Said_by, SeenOf, Sends}
use Rattle.st_laws_third.proofs.Told.{ServerSeen, ServerSends, Steals, Submits, Suspects, Told, Writes, happens_told}
use Rattle.st_laws_third_leases.proofs.Losses.{Blames, NoLoss, loss, losses_noted}
use Rattle.st_third.specs.Events as every
use Rattle.st_third.specs.Events.{ThirdWorldTurn}
use Rattle.st_third.specs.Limits.{IsHead, limited_node, limited_site, most_clients, with_limits}
use Rattle.st_third.specs.Promises.{Throughout}
use Rattle.st_third.specs.State.{ClientBeside, ThirdClientTurn}
use Rattle.st_third.specs.Steps as steps
use Rattle.st_third.specs.Steps.{ThirdStep, ThirdTraced, plain_event, plain_step, plainly_seen}
use Rattle.st_third.specs.World as worlds
use Rattle.st_third.specs.World.{ThirdWorld, third_world}
use Rattle.st_trace.specs.Server.Steps.{step_of}
use Rattle.st_laws_third_leases.specs.Healthy.{InThirdHealthyRuns}
use Rattle.st_laws_third_leases.proofs.ClientTalks.{TalksSince, numbers_then, settings, talks_then}
use Rattle.st_laws_third_leases.proofs.Happening.{ByNeither, ByTheClient, ByTheServer, ClientSteps, Happened, ServerSteps, happened, server_from}
use Rattle.st_laws_third_leases.proofs.Idle.{Sent}
use Rattle.st_laws_third_leases.proofs.Nodes.{Known, config_at, counted_world, first_none, fits_at, known_counted, known_first, known_then}
use Rattle.st_laws_third_leases.proofs.Nodes.{its_story, left, paired_at}
use Rattle.st_laws_third_leases.proofs.OneStep as one
use Rattle.st_laws_third_leases.proofs.Placing.{Resting}
use Rattle.st_laws_third_leases.proofs.ServerSays.{Near, step_says, third_step_is}
use Rattle.st_laws_third_leases.proofs.Stepping.{plain_input}
use Rattle.st_laws_third_leases.proofs.Young.{Renews, Stand, renews_of, stand2, stands_first}

-- a lease without an outstanding request is young
is_young : (k : Config) (gap last now : ℕ) → now ≤ last + gap → (z : ClientSession) → WasYoung k last (Some z) → z.lease.condemned ≡ false →
    z.requests.asked ≡ None → now < z.lease.date.0 + k.renew + gap
is_young k gap last now l z (inl (inl b)) n q = absurd (not_both z.lease.condemned b n)
is_young k gap last now l z (inl (inr b)) n q = absurd (no (sym (ap is_some q) ∙ b))
  where
    no : ◌≡◌ {A = Bool} false true → ⊥
    no w = cc
is_young k gap last now l z (inr y) n q = omega (arith, y, l)

-- more messages, none of which is from the client to the server
more_numbers : (c : ClientId) (s : ServerId) (life : ℕ) (v : Option (ℕ × Words.ClientState.Requests)) (ms ns : List Message) →
    ((m : Message) → Has m ms → Has m ns) → ((m : Message) → Has m ns → Between c s m → Has m ms) → Numbers (λ m. Has m ms) c s life v →
    Numbers (λ m. Has m ns) c s life v
more_numbers c s life v ms ns more less n =
    record {
      lives = λ m h x. n.lives m (less m h x) x;
      placed = λ m h x. n.placed m (less m h x) x;
      one = λ m p h i x y. n.one m p (less m h x) (less p i y) x y;
      sent = by v n.sent;
      counts = n.counts;
    }
  where
    asked : (e : ℕ) (o : Option Request) → Rattle.st_laws_requests.specs.Cuts.Cuts.IsSent (λ m. Has m ms) c s life e o →
        Rattle.st_laws_requests.specs.Cuts.Cuts.IsSent (λ m. Has m ns) c s life e o
    asked e None f = tt
    asked e (Some q) f = (f.0, more f.0 f.1, f.2)

    by : (v : Option (ℕ × Words.ClientState.Requests)) → SentIn (λ m. Has m ms) c s life v → SentIn (λ m. Has m ns) c s life v
    by None f = tt
    by (Some p) f = asked p.0 p.1.asked f

-- What is observed as a loss: a client's note of it, and nothing else.
word_is : (c : ClientId) (s : ServerId) (life : Life) (r : ClientId) (v : ThirdOutput) (y : ThirdObservation) → SeenOf r v y →
    y ≡ third_seen.Plain (seen.Lost c s life) → (r ≡ c) × (v ≡ loss s life)
word_is c s life r _ _ (Loses a b) e = (same e, note e)
  where
    same : third_seen.Plain (seen.Lost r a b) ≡ third_seen.Plain (seen.Lost c s life) → r ≡ c
    same q = cc

    note : third_seen.Plain (seen.Lost r a b) ≡ third_seen.Plain (seen.Lost c s life) → loss a b ≡ loss s life
    note q = cc
word_is c s life r _ _ (Sends m n) e = cc
word_is c s life r _ _ (Submits number at what n) e = cc
word_is c s life r _ _ (Answers op a) e = cc
word_is c s life r _ _ (Leases a end) e = cc
word_is c s life r _ _ (Writes f p bytes n) e = cc
word_is c s life r _ _ (Patches f p at bytes n) e = cc
word_is c s life r _ _ (told.Leaves op) e = cc
word_is c s life r _ _ (IsUnsynced op ino) e = cc
word_is c s life r _ _ (told.Ends a b end) e = cc

server_word_is : (c : ClientId) (s : ServerId) (life : Life) (r : ServerId) (v : Output) (y : Observation) → ServerSeen r v y →
    third_seen.Plain y ≡ third_seen.Plain (seen.Lost c s life) → ⊥
server_word_is c s life r _ _ (ServerSends m n) e = cc
server_word_is c s life r _ _ (Suspects a start) e = cc
server_word_is c s life r _ _ (Steals a b) e = cc
server_word_is c s life r _ _ (Cuts f p n) e = cc

fate_is : (c : ClientId) (s : ServerId) (life : Life) (y : Observation) → IsFate y → third_seen.Plain y ≡ third_seen.Plain (seen.Lost c s life) → ⊥
fate_is c s life y i e = subst IsFate (same e) i
  where
    same : third_seen.Plain y ≡ third_seen.Plain (seen.Lost c s life) → y ≡ seen.Lost c s life
    same q = cc

-- what the first two forms see as a loss is one
seen_plainly : (os : List ThirdObservation) (c : ClientId) (s : ServerId) (life : Life) → Has (seen.Lost c s life) (plainly_seen os) →
    Has (third_seen.Plain (seen.Lost c s life)) os
seen_plainly [] c s life h = absurd h
seen_plainly (third_seen.Plain y ∷ os) c s life (inl e) = inl (ap third_seen.Plain e)
seen_plainly (third_seen.Plain y ∷ os) c s life (inr h) = inr (seen_plainly os c s life h)
seen_plainly (third_seen.Left d op ∷ os) c s life (inl e) = cc
seen_plainly (third_seen.Left d op ∷ os) c s life (inr h) = inr (seen_plainly os c s life h)
seen_plainly (third_seen.Unsynced d op ino ∷ os) c s life (inl e) = cc
seen_plainly (third_seen.Unsynced d op ino ∷ os) c s life (inr h) = inr (seen_plainly os c s life h)
seen_plainly (third_seen.Ended d r b ∷ os) c s life h = inr (seen_plainly os c s life h)

-- At this reading of its clock the server is out of grace, and its sessions are of its epoch.
pub record IsSettled (now : Stamp) (node : ServerNode) : Type 0 where
  pub off : is_on node.state.grace now ≡ false
  pub epoch : node.state.sessions.epoch ≡ node.state.stable.epoch

-- a grace that is over stays over
still_off : (v : Option Grace) (a b : Stamp) → a.0 ≤ b.0 → is_on v a ≡ false → is_on v b ≡ false
still_off None a b l e = refl
still_off (Some y) a b l e = go (nat_lt b.0 (y.start.0 + y.wait)) refl
  where
    go : (v : Bool) → nat_lt b.0 (y.start.0 + y.wait) ≡ v → v ≡ false
    go false q = refl
    go true q = let z = ltb-true b.0 (y.start.0 + y.wait) q in let w = ltb-false a.0 (y.start.0 + y.wait) e in absurd (omega (arith, z, w, l))

settled_later : (a b : Stamp) (node : ServerNode) → a.0 ≤ b.0 → IsSettled a node → IsSettled b node
settled_later a b node l z = record { off = still_off node.state.grace a b l z.off; epoch = z.epoch }

-- the clients of the third form
near_is : (n : ℕ) → 1 ≤ n → n ≤ 64 → Near n ≡ true
unfolding most_clients
near_is n some few = and_both (nat_le 1 n) (nat_le n 64) (le-leb 1 n some) (le-leb n 64 few)

module _ (k : Config) (ages : Renews k) (c : ClientId) (s : ServerId) (gap d : ℕ) where
  -- what is known of the client's associations with the server
  abbrev pub AllTalk : List Step → World → Type 0
  AllTalk past w =
      (site : WorldClient) (node : ServerNode) → site_of w c ≡ Some site → node_of w s ≡ Some node → (a : Association) → Has a site.node.state.associations →
      a.server ≡ s → (since : ℕ) × TalksSince k c s gap d since past (messages w) node.state (client_clock c w) a

  -- the numbers of its requests
  abbrev pub AllNumbered : World → Type 0
  AllNumbered w =
      (site : WorldClient) → site_of w c ≡ Some site → (a : Association) → Has a site.node.state.associations → a.server ≡ s →
      Numbers (λ m. Has m (messages w)) c s a.life.0 (view a.session)

  -- What holds after every event.
  pub record Healthy (past : List ThirdStep) (t : ThirdTraced) : Type 0 where
    pub stand : Stand k ages c gap past t
    pub runs : AllRun c s t.third.world
    pub free : (node : ServerNode) → node_of t.third.world s ≡ Some node → may_ack node.state.authority c ≡ true
    pub settled : (node : ServerNode) → node_of t.third.world s ≡ Some node → IsSettled (clock_of t.third.world (nodes.Server s)) node
    pub ticks : (site : WorldClient) (a : Association) (z : ClientSession) → site_of t.third.world c ≡ Some site → Has a site.node.state.associations →
        a.session ≡ Some z → client_clock c t.third.world ≤ client_last_tick c 0 (map plain_step past) + gap
    pub in_time : InTime (client_clock c) c s d (map plain_step past) (messages t.third.world) (client_clock c t.third.world)
    pub begun : Begun (client_clock c) c s d (map plain_step past) (client_clock c t.third.world)
    pub numbers : AllNumbered t.third.world
    pub talks : AllTalk (map plain_step past) t.third.world

  -- The age of a lease.
  module _ (past : List ThirdStep) (t : ThirdTraced) (o : Healthy past t) (node : ServerNode) (is : node_of t.third.world s ≡ Some node)
      (site : WorldClient) (a : Association) (z : ClientSession) (f : site_of t.third.world c ≡ Some site) (j : Has a site.node.state.associations)
      (at_a : a.server ≡ s) (q : a.session ≡ Some z) where
    abbrev present : ℕ
    present = client_clock c t.third.world

    abbrev prior : List Step
    prior = map plain_step past

    abbrev since : ℕ
    since = (o.talks site node f is a j at_a).0

    known : TalksSince k c s gap d since prior (messages t.third.world) node.state present a
    known = (o.talks site node f is a j at_a).1

    p : HasSession (settings k) c s gap d (client_clock c) d since prior (messages t.third.world)
        node.state.sessions a.life.0 node.state.stable.epoch.0 known.last z
    p =
        subst (Phase (settings k) c s gap d (client_clock c) d since prior (messages t.third.world)
        node.state.sessions a.life.0 node.state.stable.epoch.0 known.last)
        q known.phase

    pub aged : (present < z.lease.date.0 + longest k gap d) × (z.lease.condemned ≡ false)
    aged = (by z.requests.asked refl p.requests, p.sound)
      where
        by : (r : Option Request) → z.requests.asked ≡ r →
            Requested (settings k) c s gap d (client_clock c) d since prior
            (messages t.third.world) a.life.0 node.state.stable.epoch.0 known.last z.lease.date.0
            z.requests.next r → present < z.lease.date.0 + longest k gap d
        by None e r =
            let y = is_young k gap (client_last_tick c 0 prior) present (o.ticks site a z f j q) z
            (subst (WasYoung k (client_last_tick c 0 prior)) q (o.stand.stands.young site f (o.runs.clients site f) a j)) p.sound e in
            let l = le-max_left (k.renew + gap) (2 * d + 1) in
            omega (arith, y, l)
        by (Some v) e r =
            let y = r.first.young in
            let l = trip_ends (client_clock c) c s d prior (messages t.third.world) present
            (IsAsking (settings k) c s gap d a.life.0 node.state.stable.epoch.0 v.number v.body)
            (IsCounting (settings k) c s gap d a.life.0 node.state.stable.epoch.0 v.number v.body) r.first.from o.in_time r.first.trip in
            omega (arith, y, l)

  -- An event.
  module _ (past : List ThirdStep) (t : ThirdTraced) (e : ThirdEvent) (o : Healthy past t) (free : worlds.refusal t.third e ≡ None) where
    abbrev w : ThirdWorld
    w = counted_world k t.third o.stand.known e free

    abbrev sc : ThirdWorldTurn
    sc = left k t.third o.stand.known e free

    abbrev x : ThirdStep
    x = steps.third_step t e sc

    abbrev px : Step
    px = plain_step x

    abbrev pe : Event
    pe = plain_event e

    abbrev ps : List Step
    ps = map plain_step past

    abbrev ps2 : List Step
    ps2 = ps ++ px ∷ []

    abbrev ms : List Message
    ms = messages w.world

    abbrev M2 : List Message
    M2 = messages sc.third.world

    kn : Known k w
    kn = known_counted k t.third o.stand.known e free

    kn2 : Known k sc.third
    kn2 = known_then k t.third o.stand.known e free

    lines : ThirdTold w sc
    lines = third_tells w e kn.sound.form

    keeps : (n : ℕ) (m : Message) → numbered ms n ≡ Some m → numbered M2 n ≡ Some m
    keeps = keeps_place ms M2 (plainly_seen sc.seen) lines

    tells : (n : ℕ) (m : Message) → Has (seen.Sent n m) (plainly_seen sc.seen) → numbered M2 n ≡ Some m
    tells = tells_place ms M2 (plainly_seen sc.seen) lines

    more : (m : Message) → Has m ms → Has m M2
    more m h = let y = has_numbered ms m h in numbered_has M2 y.0 m (keeps y.0 m y.1)

    told_has : (m : Message) → (n : ℕ) × Has (seen.Sent n m) (plainly_seen sc.seen) → Has m M2
    told_has m y = numbered_has M2 y.0 m (tells y.0 m y.1)

    module _ (g : IsHealthy c s gap d ps px) where
      both : BothRun c s sc.third.world
      both = record { site = g.site; there = g.there; runs = g.runs; node = g.node; is = g.is; up = g.up }

      runs1 : AllRun c s w.world
      runs1 = record { clients = o.runs.clients; servers = o.runs.servers }

      it : Happened w (plain_event e) sc c s
      it = happened w kn (plain_event e) sc c s runs1 both (its_story k t.third o.stand.known e free)

      place : (1 ≤ c.0) × (c.0 ≤ 64)
      place = let z = numbered_below sc.third.world.clients c.0 g.site g.there in let y = z.1 in let l = kn2.few in (z.0, omega (arith, y, l))

      abbrev before : ℕ
      before = client_clock c w.world

      abbrev after : ℕ
      after = client_clock c sc.third.world

      clock_as : sc.third.world.clocks ≡ w.world.clocks → after ≡ before
      clock_as q = ap (λ ts. (unwrap_or (numbered ts c.0) (stamp 0)).0) q

      -- A step of the client.
      module _ (y : ClientSteps w (plain_event e) sc s c) where
        abbrev now : Stamp
        now = clock_of w.world (nodes.Client c)

        abbrev i : ClientInput
        i = plain_input y.input

        abbrev turn : ThirdClientTurn
        turn = Client_step w c y.site y.beside y.input

        abbrev Said : Message → Type 0
        Said = Sent turn.out

        abbrev al : List Association
        al = y.site.node.state.associations

        abbrev bs : List Association
        bs = turn.client.plain.associations

        of_old : (P : cl.ClientNode → Type 0) → P y.old.node → P y.site.node
        of_old P p = subst P (sym y.same) p

        resting : (a : Association) → Has a al → Resting a
        resting = of_old (λ n. (a : Association) → Has a n.state.associations → Resting a) (o.stand.stands.resting y.old y.there)

        new : (m : Message) → Has m M2 → Has m ms ⊎ IsNew c px M2 now.0 Said m
        new m h = go (y.took.new m h)
          where
            go : Has m ms ⊎ Said m → Has m ms ⊎ IsNew c px M2 now.0 Said m
            go (inl j) = inl j
            go (inr j) =
                let z = y.took.told m j in
                inr (record {
                  among = j;
                  number = z.0;
                  sent = z.1;
                  there = tells z.0 m z.1;
                  from = (one.of w kn pe sc s c y resting kn2 m j).1.1.from ∙ one.id_is w kn pe sc s c y resting kn2;
                  stamp = one.stamped w kn pe sc s c y resting kn2 m j;
                })

        here : site_of sc.third.world c ≡ Some (ev.at_node (record y.site.node { state = turn.client.plain }) y.site)
        here = one.here w kn pe sc s c y resting kn2

        young : (a : Association) → Has a al → (z : ClientSession) → a.session ≡ Some z → z.lease.condemned ≡ false → z.requests.asked ≡ None →
            now.0 < z.lease.date.0 + k.renew + gap
        young =
            of_old (λ n. (a : Association) → Has a n.state.associations → (z : ClientSession) → a.session ≡ Some z → z.lease.condemned ≡ false →
            z.requests.asked ≡ None → now.0 < z.lease.date.0 + k.renew + gap)
            (λ a l z q n r. is_young k gap (client_last_tick c 0 ps) now.0 (o.ticks y.old a z y.there l q) z
            (subst (WasYoung k (client_last_tick c 0 ps)) q (o.stand.stands.young y.old y.there (o.runs.clients y.old y.there) a l)) n r)

        numbers_now : (a : Association) → Has a al → a.server ≡ s → Numbers (λ m. Has m ms) c s a.life.0 (view a.session)
        numbers_now =
            of_old (λ n. (a : Association) → Has a n.state.associations → a.server ≡ s → Numbers (λ m. Has m ms) c s a.life.0 (view a.session))
            (o.numbers y.old y.there)

        nodes_same : node_of sc.third.world s ≡ node_of w.world s
        nodes_same = ap (λ xs. numbered xs s.0) y.took.servers

        module _ (node : ServerNode) (is : node_of w.world s ≡ Some node) where
          talks_now : (a : Association) → Has a al → a.server ≡ s → (since : ℕ) × TalksSince k c s gap d since ps ms node.state now.0 a
          talks_now =
              of_old (λ n. (a : Association) → Has a n.state.associations → a.server ≡ s →
              (since : ℕ) × TalksSince k c s gap d since ps ms node.state now.0 a)
              (o.talks y.old node y.there is)

          pub client_numbers : (b : Association) → Has b bs → b.server ≡ s → Numbers (λ m. Has m M2) c s b.life.0 (view b.session)
          client_numbers =
              numbers_then k c s gap d place.1 ps px w.world M2 more keeps now (clock_as y.took.clocks) o.in_time o.begun i Said new
              (λ m h. told_has m (y.took.told m h)) y.brings y.deaf node.state y.site.node.state.id (one.id_is w kn pe sc s c y resting kn2) al bs
              (one.pairs w kn pe sc s c y resting kn2) (one.sends w kn pe sc s c y resting kn2) (one.of w kn pe sc s c y resting kn2)
              (one.once w kn pe sc s c y resting kn2) talks_now young numbers_now resting

          pub client_talks : (b : Association) → Has b bs → b.server ≡ s → (since : ℕ) × TalksSince k c s gap d since ps2 M2 node.state now.0 b
          client_talks =
              talks_then k c s gap d place.1 ps px w.world M2 more keeps now (clock_as y.took.clocks) o.in_time o.begun i Said new
              (λ m h. told_has m (y.took.told m h)) y.brings y.deaf node.state y.site.node.state.id (one.id_is w kn pe sc s c y resting kn2) al bs
              (one.pairs w kn pe sc s c y resting kn2) (one.sends w kn pe sc s c y resting kn2) (one.of w kn pe sc s c y resting kn2)
              (one.once w kn pe sc s c y resting kn2) talks_now young numbers_now resting

      -- A step of the server.
      module _ (y : ServerSteps w (plain_event e) sc c s) where
        abbrev at : Stamp
        at = clock_of w.world (nodes.Server s)

        abbrev n : ServerState
        n = y.node.state

        abbrev turned : ServerTurn
        turned = step_of Near n at y.input

        same_turn : Rattle.st_third.specs.Server.server_step w.world.form n at y.input ≡ turned
        same_turn = third_step_is w.world.form kn.sound.form n at y.input

        own : node_of sc.third.world s ≡ Some (record y.node { state = turned.state })
        own =
            ap (λ xs. numbered xs s.0) y.servers
            ∙ numbered_own w.world.servers s.0 _ y.node y.there
            ∙ ap (λ (u : ServerTurn). Some (record y.node { state = u.state })) same_turn

        outs : (m : Message) → Has (outputs.Send m) turned.out → Has (outputs.Send m) (Server_step w s y.node y.input).out
        outs m h = subst (λ (u : ServerTurn). Has (outputs.Send m) u.out) (sym same_turn) h

        says : (m : Message) → Has (outputs.Send m) turned.out → IsSaid s px M2 turned.out m
        says m h =
            let z = y.told m (outs m h) in
            record {
              among = h;
              number = z.0;
              sent = z.1;
              there = tells z.0 m z.1;
              from = server_from w kn s y.node y.input y.there m (outs m h);
            }

        new_said : (m : Message) → Has m M2 → Has m ms ⊎ IsSaid s px M2 turned.out m
        new_said m h = go (y.new m h)
          where
            go : Has m ms ⊎ Has (outputs.Send m) (Server_step w s y.node y.input).out → Has m ms ⊎ IsSaid s px M2 turned.out m
            go (inl j) = inl j
            go (inr j) = inr (says m (subst (λ (u : ServerTurn). Has (outputs.Send m) u.out) same_turn j))

        still : may_ack turned.state.authority c ≡ true
        still = subst (λ (z : ServerNode). may_ack z.state.authority c ≡ true) (some_is (sym g.is ∙ own)) g.free

        id : n.id ≡ s
        id = ap (λ m. record { 0 = m }) (kn.servers s.0 y.node y.there)

        settled : IsSettled at y.node
        settled = o.settled y.node y.there

        pub server_settled : IsSettled at (record y.node { state = turned.state })
        server_settled =
            let z = step_says n Near at y.input in
            record { off = ap (λ v. is_on v at) z.grace ∙ settled.off; epoch = z.sepoch ∙ settled.epoch ∙ sym z.epoch }

        pub server_talks : (site : WorldClient) → site_of w.world c ≡ Some site → (a : Association) → Has a site.node.state.associations → a.server ≡ s →
            (since : ℕ) × TalksSince k c s gap d since ps2 M2 turned.state after a
        server_talks site f a j at_a =
            let z = o.talks site y.node f y.there a j at_a in (
              z.0,
              subst (λ m. TalksSince k c s gap d z.0 ps2 M2 turned.state m a) (sym (clock_as y.clocks))
                  (serves_on_of (settings k) c s gap d (client_clock c) d place.1 Near (near_is c.0 place.0 place.1) ps px w.world M2 more keeps before
                  (clock_as y.clocks) o.in_time o.begun before (clock_as y.clocks) o.in_time o.begun n at y.input (o.free y.node y.there) still settled.epoch
                  settled.off id (step_says n Near at y.input).epoch y.brings y.deaf new_said says z.0 a z.1
                  (o.numbers site f a j at_a)).known,
            )

        -- what the server says isn't the client's
        pub not_between : (m : Message) → Has m M2 → Between c s m → Has m ms
        not_between m h b = go (new_said m h)
          where
            go : Has m ms ⊎ IsSaid s px M2 turned.out m → Has m ms
            go (inl j) = j
            go (inr z) = let u = z.from in let v = b.0 in let l = place.1 in let q : 32768 + s.0 ≡ c.0 = sym u ∙ v in absurd (omega (arith, q, l))

      -- After the event.
      talks2 : Happened w (plain_event e) sc c s → AllTalk ps2 sc.third.world
      talks2 (ByTheClient y) site node f q a j at_a =
          let z = client_talks y node (sym (nodes_same y) ∙ q) a (subst (λ (v : WorldClient). Has a v.node.state.associations)
          (some_is (sym f ∙ here y)) j) at_a in
          (z.0, subst (λ m. TalksSince k c s gap d z.0 ps2 M2 node.state m a) (sym (clock_as y.took.clocks)) z.1)
      talks2 (ByTheServer y) site node f q a j at_a =
          let z = server_talks y site (sym (ap (λ xs. numbered xs c.0) y.clients) ∙ f) a j at_a in
          (z.0, subst (λ (v : ServerNode). TalksSince k c s gap d z.0 ps2 M2 v.state after a) (some_is (sym (own y) ∙ q)) z.1)
      talks2 (ByNeither y) site node f q a j at_a =
          let z = o.talks site node (sym y.sites ∙ f) (sym y.nodes_same ∙ q) a j at_a in (
            z.0,
            (talks_on (settings k) c s gap d ps px w.world M2 more keeps (client_clock c) d z.0 node.state before after y.later y.deaf_server y.deaf y.new a
                z.1).0,
          )

      numbers2 : Happened w (plain_event e) sc c s → AllNumbered sc.third.world
      numbers2 (ByTheClient y) site f a j at_a =
          client_numbers y g.node (sym (nodes_same y) ∙ g.is) a (subst (λ (v : WorldClient). Has a v.node.state.associations) (some_is (sym f ∙ here y)) j) at_a
      numbers2 (ByTheServer y) site f a j at_a =
          more_numbers c s a.life.0 (view a.session) ms M2 more (not_between y)
          (o.numbers site (sym (ap (λ xs. numbered xs c.0) y.clients) ∙ f) a j at_a)
      numbers2 (ByNeither y) site f a j at_a =
          more_numbers c s a.life.0 (view a.session) ms M2 more less (o.numbers site (sym y.sites ∙ f) a j at_a)
        where
          less : (m : Message) → Has m M2 → Between c s m → Has m ms
          less m h b = go (y.new m h)
            where
              go : Has m ms ⊎ ((m.header.from ≢ c.0) × (m.header.from ≢ server_node s)) → Has m ms
              go (inl l) = l
              go (inr ne) = absurd (ne.0 b.0)

      -- the server's clock after a step of either
      server_clock : length sc.third.world.clients ≡ length w.world.clients → sc.third.world.clocks ≡ w.world.clocks →
          (clock_of w.world (nodes.Server s)).0 ≤ (clock_of sc.third.world (nodes.Server s)).0
      server_clock many q =
          let z = ap (λ n. (unwrap_or (numbered sc.third.world.clocks (n + s.0)) (stamp 0)).0) many in
          let y = ap (λ ts. (unwrap_or (numbered ts (length w.world.clients + s.0)) (stamp 0)).0) q in
          omega (arith, z, y)

      settled2 : Happened w (plain_event e) sc c s → (node : ServerNode) → node_of sc.third.world s ≡ Some node →
          IsSettled (clock_of sc.third.world (nodes.Server s)) node
      settled2 (ByTheClient y) node q =
          settled_later (clock_of w.world (nodes.Server s)) (clock_of sc.third.world (nodes.Server s)) node
          (server_clock (ap (λ xs. length xs) y.took.clients ∙ set_length w.world.clients (pred c.0) _) y.took.clocks)
          (o.settled node (sym (nodes_same y) ∙ q))
      settled2 (ByTheServer y) node q =
          settled_later (clock_of w.world (nodes.Server s)) (clock_of sc.third.world (nodes.Server s)) node
          (server_clock (ap (λ xs. length xs) y.clients) y.clocks)
          (subst (IsSettled (clock_of w.world (nodes.Server s))) (some_is (sym (own y) ∙ q)) (server_settled y))
      settled2 (ByNeither y) node q =
          settled_later (clock_of w.world (nodes.Server s)) (clock_of sc.third.world (nodes.Server s)) node y.server_later
          (o.settled node (sym y.nodes_same ∙ q))

      goes_on : Happened w (plain_event e) sc c s → before ≤ after
      goes_on (ByTheClient y) = let z = clock_as y.took.clocks in omega (arith, z)
      goes_on (ByTheServer y) = let z = clock_as y.clocks in omega (arith, z)
      goes_on (ByNeither y) = y.later

      same_past : ps2 ≡ map plain_step (past ++ x ∷ [])
      same_past = sym (map-append plain_step past (x ∷ []))

      pub healthy2 : Healthy (past ++ x ∷ []) (steps.traced_after e t sc)
      healthy2 =
          record {
            stand = stand2 k ages c gap past t e o.stand free;
            runs = record {
              clients = λ site f. ap (λ (y : WorldClient). y.node.running) (some_is (sym f ∙ g.there)) ∙ g.runs;
              servers = λ node f. ap (λ (y : ServerNode). y.running) (some_is (sym f ∙ g.is)) ∙ g.up;
            };
            free = λ node f. subst (λ (y : ServerNode). may_ack y.state.authority c ≡ true) (some_is (sym g.is ∙ f)) g.free;
            settled = settled2 it;
            ticks = λ site a z f j q. subst (λ p. after ≤ client_last_tick c 0 p + gap) same_past g.ticks;
            in_time = subst (λ p. InTime (client_clock c) c s d p M2 after) same_past (in_time (client_clock c) c s d ps px M2 g.come);
            begun = subst (λ p. Begun (client_clock c) c s d p after) same_past (more_began (client_clock c) c s d ps px before o.begun (goes_on it));
            numbers = numbers2 it;
            talks = subst (λ p. AllTalk p sc.third.world) same_past (talks2 it);
          }

      pub lasts : LeasesLast k c s gap d ps px
      lasts site a z f j at_a q = aged (past ++ x ∷ []) (steps.traced_after e t sc) healthy2 g.node g.is site a z f j at_a q

    -- While both run, losses are noted of leases that are over only.
    module _ (they_run : BothRun c s sc.third.world) where
      -- the server was there before
      node_before : Happened w (plain_event e) sc c s → (node : ServerNode) × (node_of w.world s ≡ Some node)
      node_before (ByTheClient y) = (they_run.node, sym (ap (λ xs. numbered xs s.0) y.took.servers) ∙ they_run.is)
      node_before (ByTheServer y) = (y.node, y.there)
      node_before (ByNeither y) = (they_run.node, sym y.nodes_same ∙ they_run.is)

      -- If the bound is at most the age at which leases are over, none is over.
      module _ (fits : longest k gap d ≤ k.lease) where
        ongoing : (site : WorldClient) → site_of w.world c ≡ Some site → (a : Association) → Has a site.node.state.associations → a.server ≡ s →
            is_ended k (clock_of w.world (nodes.Client c)) a.session ≡ false
        ongoing site f a j at_a = by a.session refl
          where
            n : (node : ServerNode) × (node_of w.world s ≡ Some node)
            n =
                node_before
                (happened w kn pe sc c s (record { clients = o.runs.clients; servers = o.runs.servers }) they_run
                (its_story k t.third o.stand.known e free))

            by : (v : Option ClientSession) → a.session ≡ v → is_ended k (clock_of w.world (nodes.Client c)) v ≡ false
            by None q = refl
            by (Some z) q =
                lt-leb (z.lease.date.0 + k.lease) (clock_of w.world (nodes.Client c)).0
                (let y = (aged past t o n.0 n.1 site a z f j at_a q).0 in omega (arith, y, fits))

        -- what the client says in a step notes no loss there
        says_none : (site : WorldClient) (b : ClientBeside) (input : ThirdInput) (v : ThirdOutput) (life : Life) → site_of w.world c ≡ Some site →
            worlds.beside_of w c ≡ Some b → Has v (Said_by w c site b input) → v ≡ loss s life → ⊥
        says_none site b input v life f q h e =
            by (losses_noted w.limits (every.third_client site b) (clock_of w.world (nodes.Client c)) input (paired_at w kn c site site b f refl q)
            (fits_at w kn c site site f refl) (λ a i. (o.stand.stands.resting site f a i).1) v h)
          where
            by : NoLoss v ⊎ ((a : Association) × Has a site.node.state.associations × Blames site.node.state.config (clock_of w.world (nodes.Client c)) a v) →
                ⊥
            by (inl n) = subst NoLoss e n
            by (inr (a, j, blames)) =
                let y = blames s life e in
                not_both (is_ended k (clock_of w.world (nodes.Client c)) a.session)
                (subst (λ kb. is_ended kb (clock_of w.world (nodes.Client c)) a.session ≡ true) (config_at w kn c site site f refl) y.1)
                (ongoing site f a j y.0)

        not_told : (life : Life) (y : ThirdObservation) → Told w y → y ≡ third_seen.Plain (seen.Lost c s life) → ⊥
        not_told life _ (ByClient r site b input v y there q h is) e =
            let z = word_is c s life r v y is e in
            let at = subst (λ r. (site_of w.world r ≡ Some site) × (worlds.beside_of w r ≡ Some b) × Has v (Said_by w r site b input)) z.0 (there, q, h) in
            says_none site b input v life at.0 at.1 at.2 z.1
        not_told life _ (ByServer r node input v y there h is) e = server_word_is c s life r v y is e
        not_told life _ (ByFate y i) e = fate_is c s life y i e

        pub none_told : (life : Life) → Has (third_seen.Plain (seen.Lost c s life)) sc.seen → ⊥
        none_told life h = not_told life (third_seen.Plain (seen.Lost c s life)) (happens_told w e kn.sound.form _ h) refl

        pub none_lost : (life : Life) → Has (seen.Lost c s life) (plainly_seen sc.seen) → ⊥
        none_lost life h = none_told life (seen_plainly sc.seen c s life h)

  -- What each such event keeps holds throughout.
  module _ (kept : Step → Type 0)
      (keeps_it : (past : List ThirdStep) (t : ThirdTraced) (e : ThirdEvent) (o : Healthy past t) (free : worlds.refusal t.third e ≡ None) →
      IsHealthy c s gap d (map plain_step past) (plain_step (steps.third_step t e (left k t.third o.stand.known e free))) →
      kept (plain_step (steps.third_step t e (left k t.third o.stand.known e free)))) where
    abbrev Goes_on : List ThirdEvent → Type 0
    Goes_on es =
        (past whole : List ThirdStep) (t : ThirdTraced) → Healthy past t → Throughout (Plainly (IsHealthy c s gap d)) past (steps.steps es t) →
        Throughout (λ p x. kept (plain_step x)) whole (steps.steps es t)

    pub throughout : (es : List ThirdEvent) → Goes_on es
    unfolding Throughout steps.steps steps.steps_on every.world_step every.world_by
    throughout [] past whole t o h = tt
    throughout (e ∷ es) past whole t o h = go (throughout es) (worlds.refusal t.third e) refl h
      where
        go : Goes_on es → (r : Option WorldRefusal) → worlds.refusal t.third e ≡ r →
            Throughout (Plainly (IsHealthy c s gap d)) past (steps.steps_on (steps.steps es) t e (every.world_by t.third e r)) →
            Throughout (λ p x. kept (plain_step x)) whole (steps.steps_on (steps.steps es) t e (every.world_by t.third e r))
        go rest (Some r) q h = tt
        go rest None q h = (keeps_it past t e o q h.0, rest _ _ _ (healthy2 past t e o q h.0) h.1)

  -- leases last, and if the bound is at most the age at which leases are over, none is lost
  abbrev pub Last : Step → Type 0
  Last x = LeasesLast k c s gap d [] x

  abbrev pub NotLost : Step → Type 0
  NotLost x = NoneIsLost k c s gap d [] x

  pub last_throughout : (es : List ThirdEvent) → Goes_on Last (λ past t e o free g. lasts past t e o free g) es
  last_throughout = throughout Last (λ past t e o free g. lasts past t e o free g)

  pub lost_throughout : (es : List ThirdEvent) → Goes_on NotLost (λ past t e o free g fits life h. none_lost past t e o free
      (record { site = g.site; there = g.there; runs = g.runs; node = g.node; is = g.is; up = g.up }) fits life h) es
  lost_throughout = throughout NotLost (λ past t e o free g fits life h. none_lost past t e o free
      (record { site = g.site; there = g.there; runs = g.runs; node = g.node; is = g.is; up = g.up }) fits life h)

-- The start of a run.
module _ (k : Config) (m : Limits) (clients servers disks blocks : ℕ) where
  abbrev first : ThirdWorld
  first = third_world k m clients servers disks blocks 3

  first_site : (c : ClientId) (site : WorldClient) → site_of first.world c ≡ Some site → site ≡ limited_site m (fresh_site k servers c.0)
  unfolding third_world fresh_world with_limits
  first_site c site e = go (numbered v.clients c.0) refl (sym (numbered_map (limited_site m) v.clients c.0) ∙ e)
    where
      v : World
      v = fresh_world k clients servers disks blocks 3

      go : (y : Option WorldClient) → numbered v.clients c.0 ≡ y → option_map (limited_site m) y ≡ Some site → site ≡ limited_site m (fresh_site k servers c.0)
      go None q r = cc r
      go (Some y) q r = sym (some_is r) ∙ ap (limited_site m) (fresh_is (fresh_site k servers) clients c.0 y q)

  pub first_node : (s : ServerId) (node : ServerNode) → node_of first.world s ≡ Some node → node ≡ limited_node m (node_at_start k servers disks blocks s.0)
  unfolding third_world fresh_world with_limits
  first_node s node e = go (numbered v.servers s.0) refl (sym (numbered_map (limited_node m) v.servers s.0) ∙ e)
    where
      v : World
      v = fresh_world k clients servers disks blocks 3

      go : (y : Option ServerNode) → numbered v.servers s.0 ≡ y → option_map (limited_node m) y ≡ Some node →
          node ≡ limited_node m (node_at_start k servers disks blocks s.0)
      go None q r = cc r
      go (Some y) q r = sym (some_is r) ∙ ap (limited_node m) (fresh_is (node_at_start k servers disks blocks) servers s.0 y q)

  pub no_messages : (x : Message) → Has x (messages first.world) → ⊥
  unfolding third_world fresh_world with_limits
  no_messages x h = absurd h

  first_free : (n : ℕ) (c : ClientId) → may_ack (limited_node m (node_at_start k servers disks blocks n)).state.authority c ≡ true
  unfolding server.fresh_server
  first_free n c = refl

  pub first_settled : (n : ℕ) (moment : Stamp) → IsSettled moment (limited_node m (node_at_start k servers disks blocks n))
  unfolding server.fresh_server
  first_settled n moment = record { off = refl; epoch = refl }

  pub first_sessions : (n : ℕ) (c : ClientId) → sessions.session_of (limited_node m (node_at_start k servers disks blocks n)).state.sessions c ≡ None
  unfolding server.fresh_server
  first_sessions n c = refl

  module _ (c : ClientId) (s : ServerId) (gap d : ℕ) (ages : Renews k) (head : IsHead k m clients servers disks blocks 3) where
    never : {A : Type 0} {P : Type 0} (x : A) → ◌≡◌ {A = Option A} None (Some x) → P
    never x q = cc

    none : (site : WorldClient) → site_of first.world c ≡ Some site → (a : Association) → Has a site.node.state.associations → a.session ≡ None
    none site f a h = first_none k m clients servers disks blocks c.0 site f a h

    pub starts : Healthy k ages c s gap d [] (steps.third_traced first)
    starts =
        record {
          stand = record { known = known_first k m clients servers disks blocks head; stands = stands_first k m clients servers disks blocks c };
          runs = record {
            clients = λ site f. ap (λ (y : WorldClient). y.node.running) (first_site c site f);
            servers = λ node f. ap (λ (y : ServerNode). y.running) (first_node s node f);
          };
          free = λ node f. subst (λ (y : ServerNode). may_ack y.state.authority c ≡ true) (sym (first_node s node f)) (first_free s.0 c);
          settled = λ node f. subst (IsSettled (clock_of first.world (nodes.Server s))) (sym (first_node s node f))
              (first_settled s.0 (clock_of first.world (nodes.Server s)));
          ticks = λ site a z f j q. never z (sym (none site f a j) ∙ q);
          in_time = none_flies (client_clock c) c s d (messages first.world) (client_clock c first.world);
          begun = none_began (client_clock c) c s d (client_clock c first.world);
          numbers = λ site f a j at. subst (λ o. Numbers (λ x. Has x (messages first.world)) c s a.life.0 (view o)) (sym (none site f a j))
              (record {
                lives = λ x h b. absurd (no_messages x h);
                placed = λ x h b. absurd (no_messages x h);
                one = λ x y h j p q. absurd (no_messages x h);
                sent = tt;
                counts = tt;
              });
          talks = λ site node f q a j at. (
            0,
            record {
              last = 0;
              known = IsBefore (λ y v. never y (sym (ap (λ (n : ServerNode). sessions.session_of n.state.sessions c) (first_node s node q) ∙
                  first_sessions s.0 c) ∙ v)) refl;
              told = λ x v l. absurd (no_messages x v);
              asked = λ x v l r. absurd (no_messages x v);
              greets = λ r x v l. absurd (no_messages x v);
              phase = subst (Phase (settings k) c s gap d (client_clock c) d 0 [] (messages first.world)
                  node.state.sessions a.life.0 node.state.stable.epoch.0 0)
                  (sym (none site f a j)) (λ x v l. absurd (no_messages x v), refl);
            },
          );
        }

module _ (k : Config) (m : Limits) (clients servers disks blocks : ℕ) (c : ClientId) (s : ServerId) (gap d : ℕ)
    (head : IsHead k m clients servers disks blocks 3) where
  abbrev pub starting : Healthy k (renews_of k head.sound) c s gap d [] (steps.third_traced (third_world k m clients servers disks blocks 3))
  starting = starts k m clients servers disks blocks c s gap d (renews_of k head.sound) head

pub lasting_law : InThirdHealthyRuns LeasesLast
lasting_law k m clients servers disks blocks es c s gap d head healthy =
    last_throughout k (renews_of k head.sound) c s gap d es [] [] _ (starting k m clients servers disks blocks c s gap d head) healthy

pub losing_law : InThirdHealthyRuns NoneIsLost
losing_law k m clients servers disks blocks es c s gap d head healthy =
    lost_throughout k (renews_of k head.sound) c s gap d es [] [] _ (starting k m clients servers disks blocks c s gap d head) healthy
