-- From a start of a client on, if its server is out of grace: the client is in a life in which nothing was said, so it keeps its lease as from the start of
-- a run on.
use Rattle.st_lemmas.proofs.Words
use Words.{◌≡◌, ℕ, ◌+◌, ◌≤◌, ◌<◌, ◌⊎◌, true, false, List, [], ◌∷◌, ◌++◌, Option, Some, None, Ok, Err, refl, sym, ap, ◌∙◌, subst, inl, inr, arith}
use Words.{append-nil, append_assoc, Result, length, list_all, Config, ClientId, ServerId, Event, Message, WorldRefusal}
use Words.nodes
use Words.events
use Words.refusals
use Words.Admissible as adm
use Words.Client as cl
use Words.ClientState.{Association, ClientSession}
use Words.Events as ev
use Words.Events.{WorldTurn, world_step}
use Words.Grace.{is_on}
use Words.History.{Traced, traced, traced_after}
use Words.Keys.{server_node}
use Words.Safety.{IsHead, Promise, Step, Throughout, is_event, left_by, step, steps, steps_on}
use Words.Server.{ServerNode}
use Words.Sessions.{session_of}
use Words.World as world
use Words.World.{World, WorldClient, clock_of, fresh_world, node_of, numbered, site_of, with_numbered}
use Words.Lists.{Has}
use Words.Lookups.{some_is}
use Words.Numbers.{numbered_below, numbered_own}
use Words.Tables.{and_true, has_map}
use Words.Truth.{not_both}
use Words.Worlds.{stands_not}
use Rattle.st_lemmas.proofs.Steps.{step_happens}
use Rattle.st_laws_leases.specs.Dates.Dates.{Dated, messages}
use Rattle.st_laws_leases.proofs.Dates.Law as dating_law
use Rattle.st_laws_leases.proofs.Sides.Fold.{second_none}
use Rattle.st_laws_requests.specs.Cuts.Cuts.{CutsHold}
use Rattle.st_laws_requests.proofs.Cuts.Law as cuts_law
use Rattle.st_laws_waits.proofs.Standing as standing
use Rattle.st_laws_waits.proofs.Standing.{Basic, basic2, node_is}
use Rattle.st_laws_lasting.specs.Lasting.{client_clock, client_last_tick}
use Rattle.st_laws_lasting.proofs.Young as young_ones
use Rattle.st_laws_lasting.proofs.Young.{Ok_in, stand2}
use Rattle.st_laws_healthy.specs.Healthy.{InRunsFromStarts, IsHealthy, IsOutOfGrace, LeasesLast, NoneIsLost, NoneIsQuiesced}
use Rattle.st_laws_healthy.proofs.Keeping.{Ages, AreKept, Stand, after, ages_of, kept, throughout_since}
use Rattle.st_laws_healthy.proofs.Lasting as lasting
use Rattle.st_laws_healthy.proofs.Lasting.{AllTalk, own_read}
use Rattle.st_laws_healthy.proofs.Origins.{Origins, SaidIn, none_said, origins}
use Rattle.st_laws_healthy.proofs.Served.{From, IsBefore, IsEarlier, IsOwn, IsTold, To}
use Rattle.st_laws_healthy.proofs.Talking.{Phase, Talks}
use Rattle.st_laws_healthy.proofs.Telling.{IsUnasked}
use Rattle.st_laws_healthy.proofs.Trips.{in_time, more_began, none_began}

-- What holds after the steps of a run holds at its end.
to_end : (count : ℕ) (Stands : List Step → Traced → Type 0) →
    ((past : List Step) (t : Traced) (e : Event) (sc : WorldTurn) → is_event count e ≡ true → Stands past t → world_step t.world e ≡ Ok sc →
    Stands (past ++ step t e sc ∷ []) (traced_after e t sc)) →
    (es : List Event) → list_all (is_event count) es ≡ true → (past : List Step) (t : Traced) → Stands past t →
    Stands (past ++ steps es t) (left_by t (steps es t))
unfolding steps steps_on left_by
to_end count Stands one [] all past t s = subst (λ p. Stands p t) (sym (append-nil past)) s
to_end count Stands one (e ∷ es) all past t s =
    go (world_step t.world e) refl (λ past t s. to_end count Stands one es (and_true _ _ all).1 past t s)
  where
    go : (r : Result WorldTurn WorldRefusal) → world_step t.world e ≡ r →
        ((past : List Step) (t : Traced) → Stands past t → Stands (past ++ steps es t) (left_by t (steps es t))) →
        Stands (past ++ steps_on (steps es) t e r) (left_by t (steps_on (steps es) t e r))
    go (Err r) f h = subst (λ p. Stands p t) (sym (append-nil past)) s
    go (Ok sc) f h =
        subst (λ p. Stands p (left_by (traced_after e t sc) (steps es (traced_after e t sc))))
        (append_assoc past (step t e sc ∷ []) (steps es (traced_after e t sc)))
        (h (past ++ step t e sc ∷ []) (traced_after e t sc) (one past t e sc (and_true _ _ all).0 s f))

module _ (k : Config) (count : ℕ) (c : ClientId) (s : ServerId) (gap : ℕ) where
  -- what holds in every run
  pub record Known (past : List Step) (t : Traced) : Type 0 where
    pub cuts : CutsHold past t
    pub dated : Dated past t
    pub basic : Basic k count s past t
    pub young : Ok_in k c (client_last_tick c 0 past) t.world
    pub said : c.0 ≤ 16 → Origins c s t.world

  known_on : (past : List Step) (t : Traced) (e : Event) (sc : WorldTurn) → is_event count e ≡ true → Known past t → world_step t.world e ≡ Ok sc →
      Known (past ++ step t e sc ∷ []) (traced_after e t sc)
  known_on past t e sc ok o h = record {
    cuts = (cuts_law.one past t e sc o.cuts h).1;
    dated = (dating_law.one past t e sc o.dated h).1;
    basic = basic2 k count s past t e sc o.basic ok h;
    young = stand2 k c gap past t e sc o.young h;
    said = λ few. origins c s past t e sc o.dated few h (o.said few);
  }

  -- The start of the client.
  module _ (d : ℕ) (ages : Ages k) (earlier : List Step) (t : Traced) (o : Known earlier t) (off : IsOutOfGrace s t.world) (sc : WorldTurn)
      (h : world_step t.world (events.Start (nodes.Client c)) ≡ Ok sc) (g : IsHealthy c s gap d [] (step t (events.Start (nodes.Client c)) sc)) where
    abbrev e : Event
    e = events.Start (nodes.Client c)

    abbrev x : Step
    x = step t e sc

    abbrev w : World
    w = ev.counted t.world

    -- the client was there, and didn't run
    record Started : Type 0 where
      site : WorldClient
      was : site_of t.world c ≡ Some site
      stopped : site.node.running ≡ false
      is : sc.world ≡ ev.with_site c (ev.started_site site) w
      silent : sc.seen ≡ []

    not_running : adm.refusal t.world e ≡ None → world.is_running t.world (nodes.Client c) ≡ false
    unfolding adm.refusal
    not_running r = stands_not (world.is_running t.world (nodes.Client c)) (refusals.Running (nodes.Client c))
        (second_none (adm.no_node t.world (nodes.Client c)) (adm.still_running t.world (nodes.Client c)) r)

    started : Started
    unfolding ev.happens ev.starts ev.starts_client
    started = go (site_of t.world c) refl
      where
        z : (adm.refusal t.world e ≡ None) × (sc ≡ ev.happens w e)
        z = step_happens t.world e sc h

        none : (y : WorldClient) → ◌≡◌ {A = Option WorldClient} None (Some y) → ⊥
        none y q = cc

        go : (v : Option WorldClient) → site_of t.world c ≡ v → Started
        go None q =
            absurd (none g.site (sym q ∙ ap (λ (y : WorldTurn). site_of y.world c)
            (ap (λ v. ev.quiet (ev.starts_client w c v)) (sym q) ∙ sym z.1) ∙ g.there))
        go (Some site) q = record {
          site = site;
          was = q;
          stopped = ap world.site_runs (sym q) ∙ not_running z.0;
          is = ap (λ (y : WorldTurn). y.world) (z.1 ∙ ap (λ v. ev.quiet (ev.starts_client w c v)) q);
          silent = ap (λ (y : WorldTurn). y.seen) (z.1 ∙ ap (λ v. ev.quiet (ev.starts_client w c v)) q);
        }

    abbrev old : WorldClient
    old = started.site

    abbrev new : World
    new = ev.with_site c (ev.started_site old) w

    few : c.0 ≤ 16
    few = let y = (numbered_below t.world.clients c.0 old started.was).1 in let l = o.dated.few in omega (arith, y, l)

    there : site_of new c ≡ Some (ev.started_site old)
    there = numbered_own t.world.clients c.0 (ev.started_site old) old started.was

    -- its associations are in their next lives, without sessions
    record Next (a : Association) : Type 0 where
      was : Association
      among : Has was old.node.state.associations
      server : a.server ≡ was.server
      life : a.life.0 ≡ was.life.0 + 1
      session : a.session ≡ None

    next : (a : Association) → Has a (ev.started_site old).node.state.associations → Next a
    unfolding cl.start
    next a j =
        let z = has_map cl.started_association old.node.state.associations a j in
        record {
          was = z.0;
          among = z.1;
          server = ap (λ (y : Association). y.server) z.2;
          life = ap (λ (y : Association). y.life.0) z.2;
          session = ap (λ (y : Association). y.session) z.2;
        }

    module _ (a : Association) (n : Next a) (at_a : a.server ≡ s) (node : ServerNode) (is : node_of t.world s ≡ Some node) where
      abbrev ms : List Message
      ms = messages t.world

      -- what was said is of an earlier life
      earlier_said : (life : ℕ) → SaidIn c s life ms → life < a.life.0
      earlier_said life z =
          let l = (o.cuts.clients c old started.was).lives n.was n.among z.by z.among
          (z.way.from, z.way.to ∙ ap (λ (y : ServerId). server_node y) (sym at_a ∙ n.server)) in
          let q = z.of_life in
          let u = n.life in
          omega (arith, l, q, u)

      none_said_now : (m : Message) → Has m ms → To c s m → m.header.life ≡ a.life.0 → ⊥
      none_said_now m i y l = let z = earlier_said m.header.life (record { by = m; among = i; way = y; of_life = refl }) in omega (arith, z, l)

      told : (m : Message) → From c s m → IsUnasked m ⊎ SaidIn c s m.header.life ms → IsTold c s ms node.state.sessions a.life.0 node.state.stable.epoch.0 0 m
      told m f (inl u) = IsOwn u
      told m f (inr z) = IsEarlier (earlier_said m.header.life z)

      silent_talks : Talks k c s gap d (client_clock c) d 0 (x ∷ []) ms node.state (client_clock c sc.world) a
      silent_talks = record {
        last = 0;
        known = IsBefore (λ y q. earlier_said y.life.0 ((o.said few).lives node is y q)) refl;
        told = λ m i f. told m f ((o.said few).replies m i f);
        asked = λ m i y l. absurd (none_said_now m i y l);
        greets = λ q m i v. absurd (none_said_now m i v.way v.of_life);
        phase = subst (Phase k c s gap d (client_clock c) d 0 (x ∷ []) ms node.state.sessions a.life.0 node.state.stable.epoch.0 0) (sym n.session)
            ((λ m i v. absurd (none_said_now m i v.way v.of_life)), refl);
      }

    same_node : node_of sc.world s ≡ node_of t.world s
    same_node = ap (λ (v : World). node_of v s) started.is

    same_messages : messages sc.world ≡ messages t.world
    same_messages = ap messages started.is

    its_site : (site : WorldClient) → site_of sc.world c ≡ Some site → ev.started_site old ≡ site
    its_site site f = some_is (sym there ∙ ap (λ (v : World). site_of v c) (sym started.is) ∙ f)

    talks : AllTalk k count c s gap d (client_clock c) d (own_read c) earlier (x ∷ []) sc.world
    talks site node f q a j at_a = (
      0,
      subst (λ ms. Talks k c s gap d (client_clock c) d 0 (x ∷ []) ms node.state (client_clock c sc.world) a) (sym same_messages)
          (silent_talks a (next a (subst (λ (y : WorldClient). Has a y.node.state.associations) (sym (its_site site f)) j)) at_a node (sym same_node ∙ q)),
    )

    young : Ok_in k c (client_last_tick c 0 (x ∷ [])) sc.world
    unfolding client_last_tick
    young = stand2 k c gap [] t e sc first h
      where
        first : Ok_in k c (client_last_tick c 0 []) t.world
        first = record {
          past = omega arith;
          stands = λ site f. record {
            config = (o.young.stands site f).config;
            fits = (o.young.stands site f).fits;
            young = λ r. absurd (not_both site.node.running r (ap (λ (y : WorldClient). y.node.running) (some_is (sym f ∙ started.was)) ∙ started.stopped));
          };
        }

    stand : Stand k ages count c s gap d earlier (x ∷ []) (traced_after e t sc)
    stand = record {
      base = record {
        cuts = (cuts_law.one earlier t e sc o.cuts h).1;
        dated = (dating_law.one earlier t e sc o.dated h).1;
        basic = basic2 k count s earlier t e sc o.basic refl h;
        young = young;
        runs = record {
          clients = λ site f. ap (λ (y : WorldClient). y.node.running) (some_is (sym f ∙ g.there)) ∙ g.runs;
          servers = λ node f. ap (λ (y : ServerNode). y.running) (some_is (sym f ∙ g.is)) ∙ g.up;
        };
        free = λ node f. subst (λ (y : ServerNode). Rattle.st_rules.specs.Authority.may_ack y.state.authority c ≡ true) (some_is (sym g.is ∙ f)) g.free;
        off = λ node f. subst (λ (v : World). is_on node.state.grace (clock_of v (nodes.Server s)) ≡ false) (sym started.is) (off_new node f);
        ticks = λ site a z f j q. g.ticks;
        in_time = in_time (client_clock c) c s d [] x (messages sc.world) g.come;
        begun = more_began (client_clock c) c s d [] x 0 (none_began (client_clock c) c s d 0) (omega arith);
        in_time2 = in_time (client_clock c) c s d [] x (messages sc.world) g.come;
        begun2 = more_began (client_clock c) c s d [] x 0 (none_began (client_clock c) c s d 0) (omega arith);
      };
      talks = talks;
    }
      where
        many : length (with_numbered c.0 (ev.started_site old) t.world.clients) ≡ length t.world.clients
        many = Rattle.st_lemmas.proofs.Numbers.set_length t.world.clients (Rattle.std.specs.Prelude.pred c.0) (ev.started_site old)

        off_new : (node : ServerNode) → node_of sc.world s ≡ Some node → is_on node.state.grace (clock_of new (nodes.Server s)) ≡ false
        off_new node f =
            subst (λ n. is_on node.state.grace (Rattle.std.specs.Prelude.unwrap_or (numbered t.world.clocks (n + s.0)) (world.stamp 0)) ≡ false) (sym many)
            (off node (sym same_node ∙ f))

    no_line : {P : Type 0} (v : Rattle.st_rules.specs.declared.observation.Observation.Observation) → Has v sc.seen → P
    no_line v i = absurd (subst (Has v) started.silent i)

    first_kept : AreKept k c s gap d earlier x
    first_kept = record {
      last = λ site a z f j at_a q.
          let n = next a (subst (λ (y : WorldClient). Has a y.node.state.associations) (sym (its_site site f)) j) in absurd (none z (sym n.session ∙ q));
      lost = λ fits life i. no_line _ i;
      quiesced = λ quick op ask q i. no_line _ i;
    }
      where
        none : (z : ClientSession) → ◌≡◌ {A = Option ClientSession} None (Some z) → ⊥
        none z q = cc

-- the start of a run
fresh_known : (k : Config) (clients servers disks blocks form : ℕ) (c : ClientId) (s : ServerId) (gap : ℕ) → IsHead k clients servers disks blocks form →
    Known k (clients + servers) c s gap [] (traced (fresh_world k clients servers disks blocks form))
unfolding fresh_world
fresh_known k clients servers disks blocks form c s gap head = record {
  cuts = cuts_law.fresh_holds k clients servers disks blocks form head;
  dated = dating_law.fresh_dated k clients servers disks blocks form head;
  basic = standing.begins k clients servers disks blocks form s head;
  young = young_ones.begins k clients servers disks blocks form c;
  said = λ few. none_said c s (fresh_world k clients servers disks blocks form) refl
      (λ node f. subst (λ (n : ServerNode). session_of n.state.sessions c ≡ None) (sym (node_is k clients servers disks blocks form s node f))
      (lasting.no_sessions k servers disks blocks s.0 c));
}

-- From starts on.
start_law : (promise : Config → ClientId → ServerId → ℕ → ℕ → Promise) →
    ((k : Config) (c : ClientId) (s : ServerId) (gap d : ℕ) (past : List Step) (x : Step) → AreKept k c s gap d past x → promise k c s gap d past x) →
    InRunsFromStarts promise
unfolding steps steps_on Throughout
start_law promise f k clients servers disks blocks form earlier es c s gap d head all0 all off g = go (world_step t.world e) refl g
  where
    t0 : Traced
    t0 = traced (fresh_world k clients servers disks blocks form)

    t : Traced
    t = left_by t0 (steps earlier t0)

    e : Event
    e = events.Start (nodes.Client c)

    ages : Ages k
    ages = ages_of k head.sound

    known : Known k (clients + servers) c s gap (steps earlier t0) t
    known = to_end (clients + servers) (Known k (clients + servers) c s gap) (λ past t e sc ok o h. known_on k (clients + servers) c s gap past t e sc ok o h)
        earlier all0 [] t0 (fresh_known k clients servers disks blocks form c s gap head)

    go : (r : Result WorldTurn WorldRefusal) → world_step t.world e ≡ r → Throughout (IsHealthy c s gap d) [] (steps_on (steps es) t e r) →
        Throughout (promise k c s gap d) (steps earlier t0) (steps_on (steps es) t e r)
    go (Err r) h g = tt
    go (Ok sc) h g = (
      f k c s gap d (steps earlier t0) (step t e sc) (first_kept k (clients + servers) c s gap d ages (steps earlier t0) t known off sc h g.0),
      throughout_since (clients + servers) (IsHealthy c s gap d) (promise k c s gap d) (Stand k ages (clients + servers) c s gap d (steps earlier t0))
          (steps earlier t0) (λ past t e sc ok o h g. (
            f k c s gap d (steps earlier t0 ++ past) (step t e sc) (kept k ages (clients + servers) c s gap d (steps earlier t0) past t e sc o ok h g),
            after k ages (clients + servers) c s gap d (steps earlier t0) past t e sc o ok h g,
          )) es all (step t e sc ∷ []) (traced_after e t sc) (stand k (clients + servers) c s gap d ages (steps earlier t0) t known off sc h g.0) g.1,
    )

pub leases_from_starts : InRunsFromStarts LeasesLast
leases_from_starts = start_law LeasesLast (λ k c s gap d past x y. y.last)

pub lost_from_starts : InRunsFromStarts NoneIsLost
lost_from_starts = start_law NoneIsLost (λ k c s gap d past x y. y.lost)

pub quiesced_from_starts : InRunsFromStarts NoneIsQuiesced
quiesced_from_starts = start_law NoneIsQuiesced (λ k c s gap d past x y. y.quiesced)
