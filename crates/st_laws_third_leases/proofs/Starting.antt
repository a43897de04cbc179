-- From a start of a client of the third form on, if its server is out of grace: the client is in a life in which nothing was said, so its leases last as from
-- the start of a run on.
use Rattle.st_lemmas.proofs.Words
use Words.{◌≡◌, ℕ, ◌+◌, ◌≤◌, ◌<◌, ◌⊎◌, Bool, true, false, List, [], ◌∷◌, ◌++◌, map, append-nil, append_assoc, length, Option, Some, None, refl, sym}
use Words.{ap, ◌∙◌, subst, inl, inr, arith}
use Words.{unwrap_or, ClientId, Config, Message, ServerId, WorldRefusal}
use Words.events
use Words.nodes
use Words.seen
use Words.ClientState.{Association}
use Words.Events as ev
use Words.Grace.{is_on}
use Words.Lists.{Has}
use Words.Lookups.{some_is}
use Words.Numbers.{numbered_below, numbered_has}
use Words.Safety.{Step}
use Words.Server.{ServerNode}
use Words.Sessions.{session_of}
use Words.World.{WorldClient, clock_of, node_of, numbered, site_of, stamp}
use Rattle.st_laws_healthy.specs.Healthy.{IsHealthy, IsOutOfGrace, LeasesLast, NoneIsLost}
use Rattle.st_laws_healthy.proofs.Numbers.{keeps_place}
use Rattle.st_laws_healthy.proofs.Origins.{SaidIn, none_said}
use Rattle.st_laws_healthy.proofs.Served.{IsBefore, IsEarlier, IsOwn, IsTold, To}
use Rattle.st_laws_healthy.proofs.Talking.{Phase}
use Rattle.st_laws_healthy.proofs.Telling.{IsUnasked}
use Rattle.st_laws_healthy.proofs.Trips.{in_time, more_began, none_began}
use Rattle.st_laws_lasting.specs.Lasting.{client_clock, client_last_tick}
use Rattle.st_laws_leases.specs.Dates.Dates.{messages}
use Rattle.st_laws_leases.proofs.Dates.Leaving.{has_numbered}
use Rattle.st_laws_requests.specs.Cuts.Cuts.{Numbers, view}
use Rattle.st_laws_suspicions.proofs.MessageNumbers.{ThirdTold, third_tells}
use Rattle.st_laws_third.specs.FirstPromises.{Plainly}
use Rattle.st_third.specs.declared.event.ThirdEvent.{ThirdEvent}
use Rattle.st_third.specs.declared.event.ThirdEvent.TheVariants as third
use Rattle.st_third.specs.declared.limits.Limits.{Limits}
use Rattle.st_third.specs.Events as every
use Rattle.st_third.specs.Events.{ThirdWorldTurn}
use Rattle.st_third.specs.Limits.{IsHead, limited_site}
use Rattle.st_third.specs.Promises.{Throughout}
use Rattle.st_third.specs.Steps as steps
use Rattle.st_third.specs.Steps.{ThirdStep, ThirdTraced, plain_event, plain_step, plainly_seen}
use Rattle.st_third.specs.World as worlds
use Rattle.st_third.specs.World.{ThirdWorld, third_world}
use Rattle.st_laws_third_leases.specs.Healthy.{InThirdRunsFromStarts, third_left_by}
use Rattle.st_laws_third_leases.proofs.ClientTalks.{TalksSince, settings}
use Rattle.st_laws_third_leases.proofs.Lasting.{Healthy, Last, NotLost, first_node, first_sessions, first_settled, last_throughout, lost_throughout}
use Rattle.st_laws_third_leases.proofs.Lasting.{no_messages}
use Rattle.st_laws_third_leases.proofs.Nodes.{Known, counted_world, first_none, its_story, known_counted, known_first, known_then, left}
use Rattle.st_laws_third_leases.proofs.Placing.{Place}
use Rattle.st_laws_third_leases.proofs.Origins.{IsPlaced, Origin, origin_after}
use Rattle.st_laws_third_leases.proofs.Stories.{IsBegun, Starting, starting}
use Rattle.st_laws_third_leases.proofs.Young.{Renews, Stand, no_ticks, renews_of, stand2, stands_first, young_before}

none_some : {A : Type 0} {P : Type 0} (x : A) → ◌≡◌ {A = Option A} None (Some x) → P
none_some x q = cc

module _ (k : Config) (ages : Renews k) (c : ClientId) (s : ServerId) (gap d : ℕ) where
  -- What holds in every run.
  pub record Runs (past : List ThirdStep) (t : ThirdTraced) : Type 0 where
    pub stand : Stand k ages c gap past t
    pub origin : c.0 ≤ 64 → Origin c s t.third.world

  module _ (past : List ThirdStep) (t : ThirdTraced) (e : ThirdEvent) (o : Runs past t) (free : worlds.refusal t.third e ≡ None) where
    abbrev w : ThirdWorld
    w = counted_world k t.third o.stand.known e free

    abbrev sc : ThirdWorldTurn
    sc = left k t.third o.stand.known e free

    kn : Known k w
    kn = known_counted k t.third o.stand.known e free

    lines : ThirdTold w sc
    lines = third_tells w e kn.sound.form

    more : (m : Message) → Has m (messages w.world) → Has m (messages sc.third.world)
    more m h =
        let y = has_numbered (messages w.world) m h in
        numbered_has (messages sc.third.world) y.0 m (keeps_place (messages w.world) (messages sc.third.world) (plainly_seen sc.seen) lines y.0 m y.1)

    pub runs_on : Runs (past ++ steps.third_step t e sc ∷ []) (steps.traced_after e t sc)
    runs_on = record {
      stand = stand2 k ages c gap past t e o.stand free;
      origin = λ low.
          let u = o.origin low in
          origin_after w kn (plain_event e) sc (known_then k t.third o.stand.known e free) c s low more (λ site f a j. o.stand.stands.resting site f a j)
          (record { said = record { replies = u.said.replies; lives = u.said.lives }; epochs = u.epochs; placed = u.placed })
          (its_story k t.third o.stand.known e free);
    }

  abbrev To_end : List ThirdEvent → Type 0
  To_end es = (past : List ThirdStep) (t : ThirdTraced) → Runs past t → Runs (past ++ steps.steps es t) (third_left_by t (steps.steps es t))

  to_end : (es : List ThirdEvent) → To_end es
  unfolding steps.steps steps.steps_on every.world_step every.world_by third_left_by
  to_end [] past t o = subst (λ p. Runs p t) (sym (append-nil past)) o
  to_end (e ∷ es) past t o = go (to_end es) (worlds.refusal t.third e) refl
    where
      go : To_end es → (r : Option WorldRefusal) → worlds.refusal t.third e ≡ r →
          Runs (past ++ steps.steps_on (steps.steps es) t e (every.world_by t.third e r))
          (third_left_by t (steps.steps_on (steps.steps es) t e (every.world_by t.third e r)))
      go rest (Some r) q = subst (λ p. Runs p t) (sym (append-nil past)) o
      go rest None q =
          let sc : ThirdWorldTurn = left k t.third o.stand.known e q in
          subst (λ p. Runs p (third_left_by (steps.traced_after e t sc) (steps.steps es (steps.traced_after e t sc))))
          (append_assoc past (steps.third_step t e sc ∷ []) (steps.steps es (steps.traced_after e t sc)))
          (rest (past ++ steps.third_step t e sc ∷ []) (steps.traced_after e t sc) (runs_on past t e o q))

  -- The start of the client.
  module _ (past : List ThirdStep) (t : ThirdTraced) (o : Runs past t) (off : IsOutOfGrace s t.third.world)
      (free : worlds.refusal t.third (third.Plain (events.Start (nodes.Client c))) ≡ None) where
    abbrev e0 : ThirdEvent
    e0 = third.Plain (events.Start (nodes.Client c))

    abbrev w0 : ThirdWorld
    w0 = counted_world k t.third o.stand.known e0 free

    abbrev sc0 : ThirdWorldTurn
    sc0 = left k t.third o.stand.known e0 free

    abbrev x0 : ThirdStep
    x0 = steps.third_step t e0 sc0

    abbrev px0 : Step
    px0 = plain_step x0

    abbrev ms0 : List Message
    ms0 = messages w0.world

    kn0 : Known k w0
    kn0 = known_counted k t.third o.stand.known e0 free

    module _ (g : IsHealthy c s gap d [] px0) where
      st : Starting w0 c sc0
      st = starting w0 kn0.sound kn0.sound.form c (g.site, g.there)

      low : c.0 ≤ 64
      low = let y = (numbered_below w0.world.clients c.0 st.old st.there).1 in let l = kn0.few in omega (arith, y, l)

      origin : Origin c s t.third.world
      origin = o.origin low

      same_node : node_of sc0.third.world s ≡ node_of w0.world s
      same_node = ap (λ xs. numbered xs s.0) st.servers

      begun : (site : WorldClient) → site_of sc0.third.world c ≡ Some site → (a : Association) → Has a site.node.state.associations →
          IsBegun st.old (limited_site w0.limits (ev.started_site st.old)) a
      begun site f a j = st.begun a (subst (λ (y : WorldClient). Has a y.node.state.associations) (some_is (sym f ∙ st.own)) j)

      -- each association is in its next life
      up : (a : Association) (b : IsBegun st.old (limited_site w0.limits (ev.started_site st.old)) a) → a.life.0 ≡ b.was.life.0 + 1
      up a b = by b.life
        where
          by : ((true ≡ false) × (a.life ≡ b.was.life)) ⊎ (a.life.0 ≡ b.was.life.0 + 1) → a.life.0 ≡ b.was.life.0 + 1
          by (inl z) = absurd (never z.0)
            where
              never : ◌≡◌ {A = Bool} true false → ⊥
              never q = cc
          by (inr z) = z

      module _ (a : Association) (b : IsBegun st.old (limited_site w0.limits (ev.started_site st.old)) a) (at_a : a.server ≡ s) where
        placed : IsPlaced c s ms0 st.old.node.running b.was
        placed = origin.placed st.old st.there b.was b.among (sym b.server ∙ at_a)

        -- what was said is of an earlier life
        earlier_said : (life : ℕ) → SaidIn c s life ms0 → life < a.life.0
        earlier_said life z =
            let l = placed.lives z.by z.among (z.way.from, z.way.to) in let q = z.of_life in let v = up a b in omega (arith, l, q, v)

        none_said_now : (m : Message) → Has m ms0 → To c s m → m.header.life ≡ a.life.0 → ⊥
        none_said_now m i y l = let z = earlier_said m.header.life (record { by = m; among = i; way = y; of_life = refl }) in omega (arith, z, l)

        numbers : Numbers (λ m. Has m ms0) c s a.life.0 (view a.session)
        numbers =
            subst (λ v. Numbers (λ m. Has m ms0) c s a.life.0 (view v)) (sym b.session)
            (record {
              lives = λ m h y. let z = earlier_said m.header.life (record { by = m; among = h; way = record { from = y.0; to = y.1 }; of_life = refl }) in
                  omega (arith, z);
              placed = λ m h y l. absurd (none_said_now m h (record { from = y.0; to = y.1 }) l);
              one = placed.one;
              sent = tt;
              counts = tt;
            })

        silent_talks : (node : ServerNode) → node_of w0.world s ≡ Some node → (now : ℕ) → TalksSince k c s gap d 0 (px0 ∷ []) ms0 node.state now a
        silent_talks node is now =
            record {
              last = 0;
              known = IsBefore (λ y q. earlier_said y.life.0 (origin.said.lives node is y q)) refl;
              told = λ m i f. told m (origin.said.replies m i f);
              asked = λ m i y l. absurd (none_said_now m i y l);
              greets = λ q m i v. absurd (none_said_now m i v.way v.of_life);
              phase = subst (Phase (settings k) c s gap d (client_clock c) d 0 (px0 ∷ []) ms0 node.state.sessions a.life.0 node.state.stable.epoch.0 0)
                  (sym b.session) ((λ m i v. absurd (none_said_now m i v.way v.of_life)), refl);
            }
          where
            told : (m : Message) → IsUnasked m ⊎ SaidIn c s m.header.life ms0 → IsTold c s ms0 node.state.sessions a.life.0 node.state.stable.epoch.0 0 m
            told m (inl u) = IsOwn u
            told m (inr z) = IsEarlier (earlier_said m.header.life z)

      -- no step before counts
      stand0 : Stand k ages c gap [] t
      stand0 =
          record {
            known = o.stand.known;
            stands = record {
              past = let z = no_ticks c in omega (arith, z);
              young = λ site f r a h. young_before k (client_last_tick c 0 []) (client_last_tick c 0 (map plain_step past)) a.session
                  (let z = no_ticks c in omega (arith, z)) (o.stand.stands.young site f r a h);
              resting = o.stand.stands.resting;
            };
          }

      server_clock : clock_of sc0.third.world (nodes.Server s) ≡ clock_of w0.world (nodes.Server s)
      server_clock =
          ap (λ ts. unwrap_or (numbered ts (length sc0.third.world.clients + s.0)) (stamp 0)) st.clocks
          ∙ ap (λ n. unwrap_or (numbered w0.world.clocks (n + s.0)) (stamp 0)) st.many

      pub healthy0 : Healthy k ages c s gap d (x0 ∷ []) (steps.traced_after e0 t sc0)
      healthy0 =
          record {
            stand = stand2 k ages c gap [] t e0 stand0 free;
            runs = record {
              clients = λ site f. ap (λ (y : WorldClient). y.node.running) (some_is (sym f ∙ g.there)) ∙ g.runs;
              servers = λ node f. ap (λ (y : ServerNode). y.running) (some_is (sym f ∙ g.is)) ∙ g.up;
            };
            free = λ node f. subst (λ (y : ServerNode). Words.Authority.may_ack y.state.authority c ≡ true) (some_is (sym g.is ∙ f)) g.free;
            settled = λ node f. record {
              off = subst (λ now. is_on node.state.grace now ≡ false) (sym server_clock) (off node (sym same_node ∙ f));
              epoch = origin.epochs node (sym same_node ∙ f);
            };
            ticks = λ site a z f j q. g.ticks;
            in_time = in_time (client_clock c) c s d [] px0 (messages sc0.third.world) g.come;
            begun = more_began (client_clock c) c s d [] px0 0 (none_began (client_clock c) c s d 0) (omega arith);
            numbers = λ site f a j at_a.
                subst (λ ms. Numbers (λ m. Has m ms) c s a.life.0 (view a.session)) (sym st.says) (numbers a (begun site f a j) at_a);
            talks = λ site node f q a j at_a. (
              0,
              subst (λ ms. TalksSince k c s gap d 0 (px0 ∷ []) ms node.state (client_clock c sc0.third.world) a) (sym st.says)
                  (silent_talks a (begun site f a j) at_a node (sym same_node ∙ q) (client_clock c sc0.third.world)),
            );
          }

      pub last0 : LeasesLast k c s gap d [] px0
      last0 site a z f j at_a q = none_some z (sym (begun site f a j).session ∙ q)

      pub lost0 : NoneIsLost k c s gap d [] px0
      lost0 fits life h = subst (λ os. Has (seen.Lost c s life) (plainly_seen os)) st.silent h

-- The start of a run.
nothing : (ms : List Message) → ((m : Message) → Has m ms → ⊥) → ms ≡ []
nothing [] f = refl
nothing (m ∷ ms) f = absurd (f m (inl refl))

module _ (k : Config) (m : Limits) (clients servers disks blocks : ℕ) (c : ClientId) (s : ServerId) (gap d : ℕ)
    (head : IsHead k m clients servers disks blocks 3) where
  abbrev first : ThirdWorld
  first = third_world k m clients servers disks blocks 3

  abbrev ages : Renews k
  ages = renews_of k head.sound

  unsaid : (x : Message) → Has x (messages first.world) → ⊥
  unsaid = no_messages k m clients servers disks blocks

  no_session : (site : WorldClient) → site_of first.world c ≡ Some site → (a : Association) → Has a site.node.state.associations → a.session ≡ None
  no_session site f a h = first_none k m clients servers disks blocks c.0 site f a h

  first_origin : Origin c s first.world
  first_origin =
      record {
        said = none_said c s first.world (nothing (messages first.world) unsaid)
            (λ node f. ap (λ (n : ServerNode). session_of n.state.sessions c) (first_node k m clients servers disks blocks s node f) ∙
            first_sessions k m clients servers disks blocks s.0 c);
        epochs = λ node f. subst (λ (n : ServerNode). n.state.sessions.epoch ≡ n.state.stable.epoch)
            (sym (first_node k m clients servers disks blocks s node f))
            (first_settled k m clients servers disks blocks s.0 (stamp 0)).epoch;
        placed = λ site f a j at. record {
          lives = λ x h y. absurd (unsaid x h);
          one = λ x z h i p q. absurd (unsaid x h);
          place = λ r. subst (λ o. Place (messages first.world) c s a.life.0 (view o)) (sym (no_session site f a j))
              (record { lives = λ x h y. absurd (unsaid x h); placed = λ x h y. absurd (unsaid x h); counts = tt; plain = tt });
        };
      }

  runs_first : Runs k ages c s gap d [] (steps.third_traced first)
  runs_first = record {
    stand = record { known = known_first k m clients servers disks blocks head; stands = stands_first k m clients servers disks blocks c };
    origin = λ low. first_origin;
  }

  module _ (earlier : List ThirdEvent) where
    abbrev left_there : ThirdTraced
    left_there = third_left_by (steps.third_traced first) (steps.steps earlier (steps.third_traced first))

    runs_there : Runs k ages c s gap d (steps.steps earlier (steps.third_traced first)) left_there
    runs_there = to_end k ages c s gap d earlier [] (steps.third_traced first) runs_first

    module _ (es : List ThirdEvent) (off : IsOutOfGrace s left_there.third.world) where
      abbrev start : ThirdEvent
      start = third.Plain (events.Start (nodes.Client c))

      abbrev Starts : (Step → Type 0) → Type 0
      Starts kept =
          Throughout (Plainly (IsHealthy c s gap d)) [] (steps.steps (start ∷ es) left_there) →
          Throughout (λ p x. kept (plain_step x)) (steps.steps earlier (steps.third_traced first)) (steps.steps (start ∷ es) left_there)

      last_on : Starts (Last k ages c s gap d)
      unfolding Throughout steps.steps steps.steps_on every.world_step every.world_by
      last_on g = go (worlds.refusal left_there.third start) refl g
        where
          go : (r : Option WorldRefusal) → worlds.refusal left_there.third start ≡ r →
              Throughout (Plainly (IsHealthy c s gap d)) [] (steps.steps_on (steps.steps es) left_there start (every.world_by left_there.third start r)) →
              Throughout (λ p x. Last k ages c s gap d (plain_step x)) (steps.steps earlier (steps.third_traced first))
              (steps.steps_on (steps.steps es) left_there start (every.world_by left_there.third start r))
          go (Some r) q h = tt
          go None q h = (
            last0 k ages c s gap d (steps.steps earlier (steps.third_traced first)) left_there runs_there off q h.0,
            last_throughout k ages c s gap d es _ _ _
                (healthy0 k ages c s gap d (steps.steps earlier (steps.third_traced first)) left_there runs_there off q h.0) h.1,
          )

      lost_on : Starts (NotLost k ages c s gap d)
      unfolding Throughout steps.steps steps.steps_on every.world_step every.world_by
      lost_on g = go (worlds.refusal left_there.third start) refl g
        where
          go : (r : Option WorldRefusal) → worlds.refusal left_there.third start ≡ r →
              Throughout (Plainly (IsHealthy c s gap d)) [] (steps.steps_on (steps.steps es) left_there start (every.world_by left_there.third start r)) →
              Throughout (λ p x. NotLost k ages c s gap d (plain_step x)) (steps.steps earlier (steps.third_traced first))
              (steps.steps_on (steps.steps es) left_there start (every.world_by left_there.third start r))
          go (Some r) q h = tt
          go None q h = (
            (λ fits life i. lost0 k ages c s gap d (steps.steps earlier (steps.third_traced first)) left_there runs_there off q h.0 fits life i),
            lost_throughout k ages c s gap d es _ _ _
                (healthy0 k ages c s gap d (steps.steps earlier (steps.third_traced first)) left_there runs_there off q h.0) h.1,
          )

pub last_from_starts : InThirdRunsFromStarts LeasesLast
last_from_starts k m clients servers disks blocks earlier es c s gap d head off g = last_on k m clients servers disks blocks c s gap d head earlier es off g

pub lost_from_starts : InThirdRunsFromStarts NoneIsLost
lost_from_starts k m clients servers disks blocks earlier es c s gap d head off g = lost_on k m clients servers disks blocks c s gap d head earlier es off g
