-- Clients that stay aren't suspected, over whole runs of the third form: each demand that they get finds them open.
use Rattle.st_lemmas.proofs.Words
use Words.{◌≡◌, ◌⊎◌, ◌+◌, ◌≤◌, ℕ, zero, suc, Bool, true, false, List, [], ◌∷◌, ◌==◌, Option, Some, None, refl, sym, ap, ◌∙◌, subst, inl, inr}
use Words.{arith, eqb-true, if◌then◌else◌, map, option_map, ClientId, Config, HeldLock, Life, LockRow, Message, Mode, NodeId, SentMessage, ServerId, Stamp}
use Words.{Waiter, WorldRefusal}
use Words.bodies as bd
use Words.events
use Words.nodes
use Words.Authority.{may_ack}
use Words.Client as plain
use Words.ClientLocks as locks
use Words.ClientState.{Association, ClientSession}
use Words.Keys.{server_node}
use Words.Lists.{Has}
use Words.Lookups.{some_is}
use Words.Members.{has_left}
use Words.Numbers.{numbered_has}
use Words.Server as server
use Words.Server.{ServerNode}
use Words.Tables.{found_at, has_map, has_map_in}
use Words.World.{World, WorldClient, clock_of, fresh_site, fresh_world, is_running, message_of, node_at_start, node_of, numbered, site_of, site_runs}
use Rattle.st_rules.specs.Extents.{numbers}
use Rattle.st_rules.specs.declared.observation.Observation.TheVariants as plain_seen
use Rattle.st_laws_leases.specs.Dates.Dates.{message_in, messages}
use Rattle.st_laws_steps.specs.Client.Losses.{is_ended}
use Rattle.st_laws_steps.specs.Lives.Lives.{Pairwise}
use Rattle.st_laws_waits.specs.Causes.{demand_on}
use Rattle.st_laws_waits.specs.Waits.{received, received_in}
use Rattle.st_third.specs.declared.event.ThirdEvent.{ThirdEvent}
use Rattle.st_third.specs.declared.event.ThirdEvent.TheVariants as third
use Rattle.st_third.specs.declared.limits.Limits.{Limits}
use Rattle.st_third.specs.declared.observation.ThirdObservation.TheVariants as seen
use Rattle.st_third.specs.declared.output.ThirdOutput.{ThirdOutput}
use Rattle.st_third.specs.Events as every
use Rattle.st_third.specs.Events.{ThirdWorldTurn, third_counted}
use Rattle.st_third.specs.Limits.{limited_association, limited_node, limited_site, most_clients, node_at, with_limits}
use Rattle.st_third.specs.Promises.{ThirdPromise, Throughout}
use Rattle.st_third.specs.State.{ClientBeside, ThirdClientTurn}
use Rattle.st_third.specs.Steps as steps
use Rattle.st_third.specs.Steps.{ThirdStep, ThirdTraced, plain_event, plain_step}
use Rattle.st_third.specs.World as worlds
use Rattle.st_third.specs.World.{ThirdWorld, receiver_of, third_world}
use Rattle.st_laws_third.specs.Demands.{Reaches}
use Rattle.st_laws_third.specs.Living.{HasSession, LastsUnlessTold}
use Rattle.st_laws_third.specs.Sessions.{EndsLife}
use Rattle.st_laws_third.proofs.DemandRuns.{runs_there}
use Rattle.st_laws_third.proofs.DemandsSeen.{People, Taken, delivered_is, mail_throughout, mailed_first, people_after, people_first, within_most}
use Rattle.st_laws_third.proofs.Living.{clients_live_on}
use Rattle.st_laws_third.proofs.Sound.{Sound, numbered_map, sound_first}
use Rattle.st_laws_third.proofs.Stepping.{clients_step_on}
use Rattle.st_laws_suspicions.specs.Open.{DemandsFindItOpen, FindsOpen, IsOpen}
use Rattle.st_laws_suspicions.specs.Prompt.{GreetsLate, OnlySuspectedForGreeting}
use Rattle.st_laws_suspicions.specs.Staying.{IsNoSuspect, IsStaying, StayingClientsAreNotSuspected}
use Rattle.st_laws_suspicions.proofs.Between.{AllNamed, Between, Knows, Placed, between_after, client_before, named_after, placed_once, server_before}
use Rattle.st_laws_suspicions.proofs.Causes as causes
use Rattle.st_laws_suspicions.proofs.GrantNumbers.{Keeps}
use Rattle.st_laws_suspicions.proofs.MessageNumbers.{ThirdTold, third_tells}
use Rattle.st_laws_suspicions.proofs.NodeSteps.{Happened, happened, starts_idle, took_ends, took_loses}
use Rattle.st_laws_suspicions.proofs.Open.{delivery_is, open_law, together}
use Rattle.st_laws_suspicions.proofs.ServerEvents.{C, near_node}

-- a message that a server receives is one of the world's, and for that server
received_is : (s : ServerId) (w : World) (e : Words.Event) (m : Message) → received s w e ≡ Some m → (Has m (messages w)) × (m.header.to ≡ server_node s)
received_is s w (events.Deliver n) m q = go (message_of w n) refl q
  where
    none : ◌≡◌ {A = Option Message} None (Some m) → ⊥
    none e = cc

    by : (x : SentMessage) → message_of w n ≡ Some x → (b : Bool) → (x.message.header.to == server_node s) ≡ b → (if b then Some x.message else None) ≡ Some m →
        (Has m (messages w)) × (m.header.to ≡ server_node s)
    by x e true f r =
        let same : x.message ≡ m = some_is r in (
          subst (λ y. Has y (messages w)) same (has_map_in message_in w.net.messages x (numbered_has w.net.messages n x e)),
          sym (ap (λ (y : Message). y.header.to) same) ∙ eqb-true x.message.header.to (server_node s) f,
        )
    by x e false f r = absurd (none r)

    go : (o : Option SentMessage) → message_of w n ≡ o → received_in s o ≡ Some m → (Has m (messages w)) × (m.header.to ≡ server_node s)
    go None e r = absurd (none r)
    go (Some x) e r = by x e (x.message.header.to == server_node s) refl r
received_is s w e m q = cc q

-- a lease that is over ends its life, and the step tells this end
over_is_told : (k : Config) (now : Stamp) (os : List ThirdOutput) (as_ bs : List Association) → Pairwise (EndsLife k now) as_ bs →
    Pairwise (LastsUnlessTold os) as_ bs → (a : Association) → Has a as_ → is_ended k now a.session ≡ true →
    Rattle.st_laws_third.specs.Living.EndIsTold a os
over_is_told k now os [] bs p q a h e = absurd h
over_is_told k now os (x ∷ as_) [] p q a h e = absurd p
over_is_told k now os (x ∷ as_) (y ∷ bs) p q a (inr h) e = over_is_told k now os as_ bs p.rest q.rest a h e
over_is_told k now os (x ∷ as_) (y ∷ bs) p q a (inl i) e =
    subst (λ (z : Association). Rattle.st_laws_third.specs.Living.EndIsTold z os) (sym i)
    (by (p.one (subst (λ (z : Association). is_ended k now z.session ≡ true) i e)) q.one)
  where
    by : x.life.0 + 1 ≤ y.life.0 → LastsUnlessTold os x y → Rattle.st_laws_third.specs.Living.EndIsTold x os
    by l (inl same) = let z = ap (λ (v : Life). v.0) same in absurd (omega (arith, l, z))
    by l (inr told) = told

-- who is there, before and after a step
abbrev Folks : ThirdPromise
Folks past x = (Sound x.before.third) × (People x.before.third) × (People x.after.third)

module _ (k : Config) (c : ClientId) (near : c.0 ≤ 64) (s : ServerId) (delay : ℕ) where
  -- What is shown of a step: demands find the client open; it doesn't greet in a later life; and the server was there.
  record Shows (past : List ThirdStep) (x : ThirdStep) : Type 0 where
    open_to : DemandsFindItOpen c s past x
    early : (old : ServerNode) → node_of x.before.third.world s ≡ Some old → GreetsLate c s (plain_step x) old → ⊥
    was : (new : ServerNode) → node_of x.after.third.world s ≡ Some new → (old : ServerNode) × (node_of x.before.third.world s ≡ Some old)

  -- what holds after every event
  record Stand (t : ThirdTraced) : Type 0 where
    named : AllNamed t.third
    between : Between k c near s t.third

  counted_people : (w : ThirdWorld) → People w → People (third_counted w)
  counted_people w p = record { asks = p.asks; ids = p.ids; servers = p.servers; few = p.few }

  counted_sound : (w : ThirdWorld) → Sound w → Sound (third_counted w)
  counted_sound w so = record { fits = record { sites = so.fits.sites; there = so.fits.there; pairs = so.fits.pairs }; form = so.form }

  counted_between : (w : ThirdWorld) → Between k c near s w → Between k c near s (third_counted w)
  counted_between w b =
      record {
        up = b.up;
        placed = b.placed;
        owns = b.owns;
        served = λ node e. let f = b.served node e in
            record { running = f.running; holds = f.holds; keeps = f.keeps; asked = f.asked; told = f.told };
        knows = b.knows;
      }

  module _ (past : List ThirdStep) (t : ThirdTraced) (e : ThirdEvent) (b : Stand t) (free : worlds.refusal t.third e ≡ None) where
    abbrev w : ThirdWorld
    w = third_counted t.third

    abbrev sc : ThirdWorldTurn
    sc = every.happens w e

    abbrev x : ThirdStep
    x = steps.third_step t e sc

    module _ (g : IsStaying c s delay past x) (folks : Folks past x) where
      abbrev so : Sound w
      so = counted_sound t.third folks.0

      people : People w
      people = counted_people t.third folks.1

      did : Happened w sc
      did = happened w e folks.0.form idle
        where
          idle : (n : NodeId) → e ≡ third.Plain (events.Start n) → is_running w.world n ≡ false
          idle (nodes.Client d) is = starts_idle t.third e free (nodes.Client d) is
          idle (nodes.Server r) is = starts_idle t.third e free (nodes.Server r) is

      told : ThirdTold w sc
      told = third_tells w e folks.0.form

      keeps : (m : Message) → Has m (messages w.world) → Has m (messages sc.third.world)
      keeps m h = subst (Has m) (sym told.is) (has_left (messages w.world) told.new m h)

      up : (site : WorldClient) → site_of sc.third.world c ≡ Some site → site.node.running ≡ true
      up site q = subst (λ (z : WorldClient). z.node.running ≡ true) (some_is (sym g.there ∙ q)) g.up

      runs : (node : ServerNode) → node_of sc.third.world s ≡ Some node → node.running ≡ true
      runs node q = subst (λ (z : ServerNode). z.running ≡ true) (some_is (sym g.runs.is ∙ q)) g.runs.running

      before : Between k c near s w
      before = counted_between t.third b.between

      stand2 : Stand (steps.traced_after e t sc)
      stand2 =
          record {
            named = named_after w sc folks.0.form b.named did;
            between = between_after k c near s w sc so people b.named before keeps up runs g.lasts g.stays did;
          }

      was : (new : ServerNode) → node_of sc.third.world s ≡ Some new → (old : ServerNode) × (node_of t.third.world s ≡ Some old)
      was new q = server_before k c near s w sc so people b.named before keeps up runs g.lasts g.stays did new q

      there : (site : WorldClient) × (site_of t.third.world c ≡ Some site)
      there = client_before k c near s w sc so people b.named before keeps up runs g.lasts g.stays did g.site g.there

      -- whoever has a row asked for it in the association's life
      row_asked : (node : ServerNode) → node_of t.third.world s ≡ Some node → (r : LockRow) → Has r node.state.locks.rows → r.client.0 ≡ c.0 →
          (a : Association) × (Has a there.0.node.state.associations) × (a.server ≡ s) × (r.life.0 ≡ a.life.0) × (HasSession a)
      row_asked node at r h own =
          let y = ((b.between.served node at).asked).rows r h in
          let o = b.between.owns there.0 there.1 y.0 y.1 (y.2 ∙ own) y.3 in
          (o.association, o.has, o.at, sym y.4 ∙ o.life, has y.0 o.association y.5 o.asks)
        where
          has : (m : Message) (a : Association) → ((m.body ≡ bd.Hello) → ⊥) → (m.body ≡ bd.Hello) ⊎ (HasSession a) → HasSession a
          has m a ne (inl i) = absurd (ne i)
          has m a ne (inr i) = i

      early : (old : ServerNode) → node_of t.third.world s ≡ Some old → GreetsLate c s (plain_step x) old → ⊥
      early old at late =
          let r = received_is s t.third.world (plain_event e) late.message late.is in
          let o = b.between.owns there.0 there.1 late.message r.0 late.from r.1 in
          let y = row_asked old at late.row late.has late.own in
          let same : o.association ≡ y.0 =
          placed_once 1 there.0.node.state.associations (b.between.placed there.0 there.1) o.association y.0 o.has y.1
          (ap (λ (z : ServerId). z.0) (o.at ∙ sym y.2)) in
          let i = o.life in
          let j = y.3 in
          let l = late.lower in
          let m = ap (λ (a : Association). a.life.0) same in
          absurd (omega (arith, i, j, l, m))

      -- A demand on a row.
      module _ (n : ℕ) (sent : SentMessage) (node : ServerNode) (r : LockRow) (to : Mode) (is : plain_event e ≡ events.Deliver n)
          (found : message_of t.third.world n ≡ Some sent) (at : node_of t.third.world s ≡ Some node) (has : Has r node.state.locks.rows)
          (own : r.client ≡ c) (demand : sent.message ≡ demand_on s node.state.stable.epoch r to) where
        abbrev now : Stamp
        now = clock_of t.third.world (nodes.Client c)

        addressee : sent.message.header.to ≡ c.0
        addressee = ap (λ (m : Message). m.header.to) demand ∙ ap (λ (d : ClientId). d.0) own

        receiver : receiver_of t.third.world sent ≡ nodes.Client c
        receiver = ap (node_at t.third.world.form) addressee ∙ near_node t.third.world.form c.0 folks.0.form near

        delivery : e ≡ third.Plain (events.Deliver n)
        delivery = delivery_is e n is

        running : there.0.node.running ≡ true
        running =
            sym (ap (λ o. site_runs o) there.1)
            ∙ (sym (ap (is_running t.third.world) receiver)
            ∙ runs_there t.third n sent found (subst (λ z. worlds.refusal t.third z ≡ None) delivery free))

        abbrev turn : ThirdClientTurn
        turn = Taken w so c there.0 there.1 running sent.message

        -- the client takes it
        sc_is : sc ≡ every.client_took w c there.0 turn
        unfolding every.happens every.plain_happens every.delivers
        sc_is =
            ap (every.happens w) delivery
            ∙ (ap (every.delivers w) found ∙ (ap (every.delivers_to w sent.message) receiver ∙ delivered_is w so c there.0 there.1 running sent.message))

        abbrev beside : ClientBeside
        beside = (so.fits.there c.0 there.0 there.1).0

        y : (a : Association) × (Has a there.0.node.state.associations) × (a.server ≡ s) × (r.life.0 ≡ a.life.0) × (HasSession a)
        y = row_asked node at r has (ap (λ (d : ClientId). d.0) own)

        knows : Knows k c near s node.state y.4.0
        knows = b.between.knows there.0 node there.1 at y.0 y.1 y.2 y.4.0 y.4.1

        -- so its lease isn't over
        lasts : is_ended there.0.node.state.config now y.0.session ≡ false
        lasts = go (is_ended there.0.node.state.config now y.0.session) refl
          where
            ends : Rattle.st_laws_third.specs.Living.EndIsTold y.0 turn.out → ⊥
            ends (inl h) =
                g.lasts y.0.life
                (subst (λ (z : ThirdWorldTurn). Has (seen.Plain (plain_seen.Lost c s y.0.life)) z.seen) (sym sc_is)
                (subst (λ (z : ServerId). Has (seen.Plain (plain_seen.Lost c z y.0.life)) (every.client_took w c there.0 turn).seen) y.2
                (took_loses w c there.0 turn y.0.server y.0.life h)))
            ends (inr (end, h)) =
                g.stays y.0.life
                (subst (λ (z : ThirdWorldTurn). Has (seen.Ended c s y.0.life) z.seen) (sym sc_is)
                (subst (λ (z : ServerId). Has (seen.Ended c z y.0.life) (every.client_took w c there.0 turn).seen) y.2
                (took_ends w c there.0 turn y.0.server y.0.life end h)))

            go : (v : Bool) → is_ended there.0.node.state.config now y.0.session ≡ v → is_ended there.0.node.state.config now y.0.session ≡ false
            go false q = q
            go true q =
                let paired = so.fits.pairs c.0 there.0 beside there.1 (so.fits.there c.0 there.0 there.1).1 in
                let fit = (so.fits.sites c.0 there.0 there.1).fit in
                let input = Rattle.st_third.specs.declared.event.ThirdInput.TheVariants.Plain
                (Rattle.st_rules.specs.declared.client.ClientInput.TheVariants.Control sent.message) in
                let stepped = clients_step_on w.limits (every.third_client there.0 beside) now input paired fit in
                let lived = clients_live_on w.limits (every.third_client there.0 beside) now input paired fit in
                absurd (ends (over_is_told there.0.node.state.config now turn.out there.0.node.state.associations turn.client.plain.associations stepped.over
                lived.lasts y.0 y.1 q))

        reaches : Reaches there.0.node.state now sent.message.header y.0 y.4.0
        reaches =
            record {
              here = addressee ∙ sym (folks.1.ids c.0 there.0 there.1);
              there = y.1;
              from = ap (λ (m : Message). m.header.from) demand ∙ ap (λ (z : ServerId). server_node z) (sym y.2);
              life = ap (λ (m : Message). m.header.life) demand ∙ y.3;
              stamp = let q = ap (λ (m : Message). m.header.stamp) demand in omega (arith, q);
              session = y.4.1;
              lasts = lasts;
              epoch = ap (λ (m : Message). m.header.epoch) demand ∙ sym knows.epoch;
            }

        in_time : (l : HeldLock) → locks.lock_of y.4.0.locks r.ino ≡ Some l → l.g.0 ≤ r.g.0
        in_time l q =
            let f = found_at (locks.is_lock_on r.ino) y.4.0.locks.rows l q in
            (knows.locks l f.1).1 r has (ap (λ (d : ClientId). d.0) own) (sym (eqb-true l.ino r.ino f.0))

        finds : FindsOpen c t.third.world sent.message.header r.ino r.g
        finds =
            record { site = there.0; there = there.1; association = y.0; session = y.4.0; reaches = reaches; in_time = in_time }

      shows : Shows past x
      shows =
          record {
            open_to = λ n sent node r at to is found here has own since demand. finds n sent node r to is found here has own demand;
            early = early;
            was = was;
          }

  abbrev Goes_on : List ThirdEvent → Type 0
  Goes_on es =
      (past : List ThirdStep) (t : ThirdTraced) → Stand t → Throughout (IsStaying c s delay) past (steps.steps es t) →
      Throughout Folks past (steps.steps es t) → Throughout Shows past (steps.steps es t)

  throughout : (es : List ThirdEvent) → Goes_on es
  unfolding Throughout steps.steps steps.steps_on every.world_step every.world_by
  throughout [] past t b h f = tt
  throughout (e ∷ es) past t b h f = go (throughout es) (worlds.refusal t.third e) refl h f
    where
      go : Goes_on es → (r : Option WorldRefusal) → worlds.refusal t.third e ≡ r →
          Throughout (IsStaying c s delay) past (steps.steps_on (steps.steps es) t e (every.world_by t.third e r)) →
          Throughout Folks past (steps.steps_on (steps.steps es) t e (every.world_by t.third e r)) →
          Throughout Shows past (steps.steps_on (steps.steps es) t e (every.world_by t.third e r))
      go rest (Some r) q h f = tt
      go rest None q h f = (shows past t e b q h.0 f.0, rest _ _ (stand2 past t e b q h.0 f.0) h.1 f.1)

  -- Who isn't suspected at first never is.
  abbrev Trusted : ThirdTraced → Type 0
  Trusted t = (node : ServerNode) → node_of t.third.world s ≡ Some node → may_ack node.state.authority c ≡ true

  abbrev Trusts_on : List ThirdEvent → Type 0
  Trusts_on es =
      (past : List ThirdStep) (t : ThirdTraced) → Trusted t → Throughout Shows past (steps.steps es t) →
      Throughout (OnlySuspectedForGreeting c s) past (steps.steps es t) → Throughout (IsNoSuspect c s) past (steps.steps es t)

  trusted : (past : List ThirdStep) (x : ThirdStep) → Trusted x.before → Shows past x → OnlySuspectedForGreeting c s past x → IsNoSuspect c s past x
  trusted past x b h g new at = go (may_ack new.state.authority c) refl
    where
      old : (o : ServerNode) × (node_of x.before.third.world s ≡ Some o)
      old = h.was new at

      go : (v : Bool) → may_ack new.state.authority c ≡ v → may_ack new.state.authority c ≡ true
      go true q = q
      go false q = absurd (h.early old.0 old.1 (g old.0 new old.1 at (b old.0 old.1) q))

  trusts : (es : List ThirdEvent) → Trusts_on es
  unfolding Throughout steps.steps steps.steps_on every.world_step every.world_by
  trusts [] past t b h g = tt
  trusts (e ∷ es) past t b h g = go (trusts es) (worlds.refusal t.third e) refl h g
    where
      go : Trusts_on es → (r : Option WorldRefusal) → worlds.refusal t.third e ≡ r →
          Throughout Shows past (steps.steps_on (steps.steps es) t e (every.world_by t.third e r)) →
          Throughout (OnlySuspectedForGreeting c s) past (steps.steps_on (steps.steps es) t e (every.world_by t.third e r)) →
          Throughout (IsNoSuspect c s) past (steps.steps_on (steps.steps es) t e (every.world_by t.third e r))
      go rest (Some r) q h g = tt
      go rest None q h g =
          let x : ThirdStep = steps.third_step t e (every.happens (third_counted t.third) e) in
          let z : IsNoSuspect c s past x = trusted past x b h.0 g.0 in
          (z, rest _ _ z h.1 g.1)

-- The start of a run.
module _ (k : Config) (m : Limits) (clients servers disks blocks : ℕ) (c : ClientId) (near : c.0 ≤ 64) (s : ServerId) (delay : ℕ) where
  abbrev first_world : ThirdWorld
  first_world = third_world k m clients servers disks blocks 3

  placed_first : (n count : ℕ) → Placed n (map (limited_association m) (map plain.fresh_association (numbers n count)))
  unfolding numbers
  placed_first n zero = tt
  placed_first n (suc count) = (refl, placed_first (n + 1) count)

  -- a client at the start
  site_first : (site : WorldClient) → site_of first_world.world c ≡ Some site → (i : ℕ) × (site ≡ limited_site m (fresh_site k servers i))
  unfolding third_world fresh_world with_limits
  site_first site e =
      go (numbered (map (fresh_site k servers) (numbers 1 clients)) c.0) refl
      (sym (numbered_map (limited_site m) (map (fresh_site k servers) (numbers 1 clients)) c.0) ∙ e)
    where
      go : (o : Option WorldClient) → numbered (map (fresh_site k servers) (numbers 1 clients)) c.0 ≡ o → option_map (limited_site m) o ≡ Some site →
          (i : ℕ) × (site ≡ limited_site m (fresh_site k servers i))
      go None q r = cc r
      go (Some z) q r =
          let h = has_map (fresh_site k servers) (numbers 1 clients) z (numbered_has (map (fresh_site k servers) (numbers 1 clients)) c.0 z q) in
          (h.0, sym (some_is r) ∙ ap (limited_site m) h.2)

  no_mail : (x : Message) → Has x (messages first_world.world) → ⊥
  unfolding third_world fresh_world with_limits
  no_mail x h = h

  site_up : (i : ℕ) → (limited_site m (fresh_site k servers i)).node.running ≡ true
  site_up i = refl

  site_placed : (i : ℕ) → Placed 1 (limited_site m (fresh_site k servers i)).node.state.associations
  unfolding plain.fresh_client
  site_placed i = placed_first 1 servers

  no_session : (i : ℕ) (a : Association) → Has a (limited_site m (fresh_site k servers i)).node.state.associations → a.session ≡ None
  unfolding plain.fresh_client
  no_session i a h =
      let z = has_map (limited_association m) (map plain.fresh_association (numbers 1 servers)) a h in
      let y = has_map plain.fresh_association (numbers 1 servers) z.0 z.1 in
      ap (λ (v : Association). v.session) (z.2 ∙ ap (limited_association m) y.2)

  abbrev First : ServerNode
  First = limited_node m (node_at_start k servers disks blocks s.0)

  keeps_first : Keeps C k s First.state
  unfolding server.fresh_server
  keeps_first = record { low = λ r h. absurd h; kept = λ v last b h e. absurd h }

  none_waits : (v : Waiter) → Has v First.state.locks.waiters → ⊥
  unfolding server.fresh_server
  none_waits v h = h

  node_first : (node : ServerNode) → node_of first_world.world s ≡ Some node → node ≡ First
  node_first node e = causes.first k m clients servers disks blocks s node e

  named_first : AllNamed first_world
  unfolding third_world fresh_world with_limits server.fresh_server
  named_first n node e =
      ap (λ (z : ServerNode). z.state.id.0) (causes.first k m clients servers disks blocks (Words.World.server n) node e)

  begun : Stand k c near s delay (steps.third_traced first_world)
  begun =
      record {
        named = named_first;
        between =
            record {
              up = λ site e. let z = site_first site e in subst (λ (v : WorldClient). v.node.running ≡ true) (sym z.1) (site_up z.0);
              placed =
                  λ site e. let z = site_first site e in subst (λ (v : WorldClient). Placed 1 v.node.state.associations) (sym z.1) (site_placed z.0);
              owns = λ site e x h. absurd (no_mail x h);
              served = λ node e.
                  let z = causes.begins k m clients servers disks blocks s in
                  let y = z.holds node e in
                  record {
                    running = y.0;
                    holds = y.1;
                    keeps = subst (λ (v : ServerNode). Keeps C k s v.state) (sym (node_first node e)) keeps_first;
                    asked =
                        record {
                          rows = λ r h. absurd (causes.no_first_row k m clients servers disks blocks s node e r h);
                          waits = λ v h. absurd (none_waits v (subst (λ (q : ServerNode). Has v q.state.locks.waiters) (node_first node e) h));
                        };
                    told = λ x h. absurd (no_mail x h);
                  };
              knows = λ site node e f a h i v is.
                  let z = site_first site e in
                  absurd (none v (sym (no_session z.0 a (subst (λ (q : WorldClient). Has a q.node.state.associations) z.1 h)) ∙ is));
            };
      }
    where
      none : (v : ClientSession) → ◌≡◌ {A = Option ClientSession} None (Some v) → ⊥
      none v e = cc

  trusted_first : Trusted k c near s delay (steps.third_traced first_world)
  unfolding server.fresh_server
  trusted_first node e = subst (λ (z : ServerNode). may_ack z.state.authority c ≡ true) (sym (node_first node e)) first
    where
      first : may_ack First.state.authority c ≡ true
      first = refl

-- Over a run that has a step, the client is one of 64.
near_by : (P Q R : ThirdPromise) (c : ClientId) → ((past : List ThirdStep) (x : ThirdStep) → P past x → Q past x → c.0 ≤ 64) →
    (past xs : List ThirdStep) → Throughout P past xs → Throughout Q past xs → (c.0 ≤ 64 → Throughout R past xs) → Throughout R past xs
unfolding Throughout
near_by P Q R c near past [] p q r = tt
near_by P Q R c near past (x ∷ xs) p q r = r (near past x p.0 q.0)

pub staying_law : StayingClientsAreNotSuspected
unfolding most_clients
staying_law k m clients servers disks blocks es c s delay head patient staying =
    near_by (IsStaying c s delay) Folks (IsNoSuspect c s) c (λ past x g f. f.2.few c.0 g.site g.there) [] (steps.steps es start) staying folks by_near
  where
    start : ThirdTraced
    start = steps.third_traced (third_world k m clients servers disks blocks 3)

    folks : Throughout Folks [] (steps.steps es start)
    folks =
        mail_throughout (λ w. Unit {0}) (λ w v so x mv. tt) Folks (λ past t e so ma p x q mv. (so, p, people_after t.third _ so p mv)) es [] start
        (sound_first k m clients servers disks blocks) (mailed_first k m clients servers disks blocks)
        (people_first k m clients servers disks blocks (within_most 1 64 clients head.some_clients)) tt

    by_near : c.0 ≤ 64 → Throughout (IsNoSuspect c s) [] (steps.steps es start)
    by_near near =
        let shown : Throughout (Shows k c near s delay) [] (steps.steps es start) =
        throughout k c near s delay es [] start (begun k m clients servers disks blocks c near s delay) staying folks in
        let open_to : Throughout (IsOpen c s delay) [] (steps.steps es start) =
        together (IsStaying c s delay) (Shows k c near s delay) (IsOpen c s delay) (λ past x g h. record { runs = g.runs; come = g.come; open_to = h.open_to })
        []
        (steps.steps es start) staying shown in
        trusts k c near s delay es [] start (trusted_first k m clients servers disks blocks c near s delay) shown
        (open_law k m clients servers disks blocks es c s delay head near patient open_to)
