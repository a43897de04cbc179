-- In every run of the third form, a lease that is over leaves nothing at its client.
use Rattle.st_lemmas.proofs.Words
use Words.{◌≡◌, ◌+◌, ℕ, ◌==◌, Bool, true, false, ◌||◌, not, List, [], ◌∷◌, Option, Some, None, find, option_map, refl, sym, ap, ◌∙◌, subst, if◌then◌else◌}
use Words.{eqb-true, eq-eqb, ClientId, Config, IssuedCommand, Life, NodeId, SentMessage, ServerId, Stamp, WorldRefusal}
use Words.events
use Words.nodes
use Words.refusals
use Words.Admissible as admissible
use Words.Client as plain
use Words.Client.{ClientNode}
use Words.ClientState.{Association, ClientSession, is_at}
use Words.Events as ev
use Words.Events.{present_life}
use Words.History.{association_at, association_of}
use Words.Keys.{same_server}
use Words.Lookups.{some_is}
use Words.Numbers.{numbered_own}
use Words.Safety as safety
use Words.Safety.{has_reached, is_emptied}
use Words.Tables.{and_both, and_true}
use Words.World.{World, WorldClient, clock_of, is_running, issued_of, message_of, numbered, present_end, same_node, site_of, site_runs}
use Rattle.std.specs.Option.{option_or}
use Rattle.st_laws_steps.specs.Client.Losses.{is_ended}
use Rattle.st_laws_steps.specs.Lives.Lives.{Pairwise}
use Rattle.st_third.specs.declared.event.ThirdEvent.{ThirdEvent}
use Rattle.st_third.specs.declared.event.ThirdEvent.TheVariants as third
use Rattle.st_third.specs.declared.event.ThirdInput.{ThirdInput}
use Rattle.st_third.specs.declared.event.ThirdInput.TheVariants as takes
use Rattle.st_third.specs.Events as every
use Rattle.st_third.specs.Events.{ThirdWorldTurn, third_counted, unseen}
use Rattle.st_third.specs.Limits.{is_third}
use Rattle.st_third.specs.Promises as promises
use Rattle.st_third.specs.State.{ClientBeside, ThirdClient}
use Rattle.st_third.specs.Steps as steps
use Rattle.st_third.specs.Steps.{ThirdStep, ThirdTraced}
use Rattle.st_third.specs.World as worlds
use Rattle.st_third.specs.World.{ThirdWorld, beside_of, receiver_of, third_world}
use Rattle.st_laws_third.specs.Invariants.{WorldFits}
use Rattle.st_laws_third.specs.Expiry.{EveryExpiredLeaseLeavesNothing, ExpiredLeasesLeaveNothing, all_left_bare, is_left_bare}
use Rattle.st_laws_third.specs.Sessions.{StepsOn}
use Rattle.st_laws_third.proofs.DemandRuns.{runs_there}
use Rattle.st_laws_third.proofs.EventWalk.{Client_step}
use Rattle.st_laws_third.proofs.ExpiredClients.{Empty, IsEmptied, step_empties}
use Rattle.st_laws_third.proofs.Moves.{Moved, took_core}
use Rattle.st_laws_third.proofs.ShortRuns.{all_true}
use Rattle.st_laws_third.proofs.Sound.{Sound, kept_throughout, sound_first}
use Rattle.st_laws_third.proofs.Stepping.{clients_step_on}

-- What is left of an association.

nothing_any : {A : Type 0} (xs : List A) → xs ≡ [] → not (plain.is_any xs) ≡ true
nothing_any xs e = ap (λ ys. not (plain.is_any ys)) e

no_session : (o : Option ClientSession) → o ≡ None → not (Words.is_some o) ≡ true
no_session o e = ap (λ (x : Option ClientSession). not (Words.is_some x)) e

emptied : (a b : Association) → Empty b → b.life.0 ≡ a.life.0 + 1 → is_emptied a.life (Some b) ≡ true
emptied a b e l =
    and_both _ _ (eq-eqb b.life.0 (a.life.0 + 1) l)
    (and_both _ _ (no_session b.session e.session)
    (and_both _ _ (nothing_any b.store.extents e.extents)
    (and_both _ _ (nothing_any b.store.pages.clean e.clean) (and_both _ _ (nothing_any b.store.pages.dirty e.dirty) (nothing_any b.store.commands e.commands)))))

found_emptied : (k : Config) (now : Stamp) (s : ServerId) (as_ bs : List Association) → Pairwise (StepsOn k now) as_ bs → Pairwise (IsEmptied k now) as_ bs →
    (a : Association) → find (is_at s) as_ ≡ Some a → is_ended k now a.session ≡ true → is_emptied a.life (find (is_at s) bs) ≡ true
found_emptied k now s [] bs p q a e f = absurd (no e)
  where
    no : ◌≡◌ {A = Option Association} None (Some a) → ⊥
    no q = cc
found_emptied k now s (x ∷ xs) [] p q a e f = absurd p
found_emptied k now s (x ∷ xs) (y ∷ ys) p q a e f = go (is_at s x) (is_at s y) (ap (λ z. same_server z s) p.one.server) e
    (found_emptied k now s xs ys p.rest q.rest a)
  where
    go : (b c : Bool) → b ≡ c → (if b then Some x else find (is_at s) xs) ≡ Some a →
        (find (is_at s) xs ≡ Some a → is_ended k now a.session ≡ true → is_emptied a.life (find (is_at s) ys) ≡ true) →
        is_emptied a.life (if c then Some y else find (is_at s) ys) ≡ true
    go true true i e r =
        let z = q.one (subst (λ (z : Association). is_ended k now z.session ≡ true) (sym (some_is e)) f) in
        subst (λ (z : Association). is_emptied z.life (Some y) ≡ true) (some_is e) (emptied x y z.0 z.1)
    go false false i e r = r e f
    go true false i e r = cc i
    go false true i e r = cc i

-- A lease that is over is that of an association.
record Over (w : World) (c : ClientId) (s : ServerId) : Type 0 where
  site : WorldClient
  there : site_of w c ≡ Some site
  association : Association
  found : find (is_at s) site.node.state.associations ≡ Some association
  ended : is_ended site.node.state.config (clock_of w (nodes.Client c)) association.session ≡ true

over : (w : World) (c : ClientId) (s : ServerId) → safety.is_expired w c s ≡ true → Over w c s
over w c s e = of_site (site_of w c) refl e
  where
    now : Stamp
    now = clock_of w (nodes.Client c)

    of_session : (site : WorldClient) → site_of w c ≡ Some site → (a : Association) → find (is_at s) site.node.state.associations ≡ Some a →
        (o : Option ClientSession) → a.session ≡ o → has_reached now (Words.ClientLease.end_at site.node.state.config (option_map plain.lease_of_session o)) ≡ true →
        is_ended site.node.state.config now o ≡ true
    of_session site t a f None q r = cc r
    of_session site t a f (Some x) q r = r

    of_association : (site : WorldClient) → site_of w c ≡ Some site → (o : Option Association) → find (is_at s) site.node.state.associations ≡ o →
        has_reached now (Words.ClientLease.end_at site.node.state.config (plain.lease_at o)) ≡ true → Over w c s
    of_association site t None q r = cc r
    of_association site t (Some a) q r =
        record { site = site; there = t; association = a; found = q; ended = of_session site t a q a.session refl r }

    of_site : (o : Option WorldClient) → site_of w c ≡ o → has_reached now (present_end w s o) ≡ true → Over w c s
    of_site None q r = cc r
    of_site (Some site) q r = of_association site q (find (is_at s) site.node.state.associations) refl r

-- A client that runs takes its step.
module _ (w : ThirdWorld) (so : Sound w) (c : ClientId) (s : ServerId) (o : Over w.world c s) where
  abbrev Left : ThirdWorldTurn → Type 0
  Left sc = is_emptied (present_life w.world c s) (association_of sc.third.world c s) ≡ true

  took : (site : WorldClient) (b : ClientBeside) (input : ThirdInput) → site.node ≡ o.site.node → beside_of w c ≡ Some b →
      Left (every.client_took w c site (Client_step w c site b input))
  took site b input e q =
      let now : Stamp = clock_of w.world (nodes.Client c) in
      let x : ThirdClient = record { plain = o.site.node.state; beside = b } in
      let z : ◌≡◌ {A = plain.ClientNode} o.site.node site.node = sym e in
      let p = so.fits.pairs c.0 o.site b o.there q in
      let f = (so.fits.sites c.0 o.site o.there).fit in
      let left : is_emptied o.association.life (find (is_at s) (Client_step w c o.site b input).client.plain.associations) ≡ true =
      found_emptied o.site.node.state.config now s _ _ (clients_step_on w.limits x now input p f).associations (step_empties w.limits x now input p f)
      o.association o.found o.ended in
      let after : association_of (every.client_took w c site (Client_step w c site b input)).third.world c s ≡
      find (is_at s) (Client_step w c site b input).client.plain.associations =
      ap (association_at s) (ap (λ y. numbered y.plain.clients c.0) (took_core w c site (Client_step w c site b input)) ∙ numbered_own w.world.clients c.0 _ o.site o.there) in
      let life : present_life w.world c s ≡ o.association.life = ap (ev.life_of_site s) o.there ∙ ap of_life o.found in
      subst (λ l. is_emptied l (association_of (every.client_took w c site (Client_step w c site b input)).third.world c s) ≡ true) (sym life)
      (subst (λ a. is_emptied o.association.life a ≡ true) (sym after)
      (subst (λ (n : ClientNode). is_emptied o.association.life
      (find (is_at s) (Rattle.st_third.specs.Client.client_step w.limits (record { plain = n.state; beside = b }) now input).client.plain.associations) ≡ true) z left))
    where
      of_life : Option Association → Life
      of_life a = Words.World.life_at a

  takes_it : (site : WorldClient) (input : ThirdInput) → site.node ≡ o.site.node → site.node.running ≡ true → Left (every.client_takes w c input site)
  unfolding every.client_takes every.running_takes every.third_takes
  takes_it site input e runs =
      let b = so.fits.there c.0 o.site o.there in
      subst (λ x. Left (if x then every.running_takes w c input site else unseen w)) (sym runs)
      (subst (λ x. Left (if x then every.third_takes w c input site (beside_of w c) else every.plain_takes w c input site)) (sym so.form)
      (subst (λ x. Left (every.third_takes w c input site x)) (sym b.1) (took site b.0 input e b.1)))

  at_client : (input : ThirdInput) → o.site.node.running ≡ true → Left (every.at_client w c input (site_of w.world c))
  unfolding every.at_client
  at_client input runs = subst (λ x. Left (every.at_client w c input x)) (sym o.there) (takes_it o.site input refl runs)

  asks_at : (ask : ℕ → ThirdInput) → o.site.node.running ≡ true → Left (every.asks_at w c ask (site_of w.world c))
  unfolding every.asks_at
  asks_at ask runs = subst (λ x. Left (every.asks_at w c ask x)) (sym o.there) (takes_it (ev.asked_once_more o.site) _ refl runs)

-- Who takes a step in an event that isn't refused runs.

first_none : (a b : Option WorldRefusal) → option_or a b ≡ None → a ≡ None
first_none None b e = refl
first_none (Some x) b e = absurd (no e)
  where
    no : Some x ≡ None → ⊥
    no q = cc

second_none : (a b : Option WorldRefusal) → option_or a b ≡ None → b ≡ None
second_none None b e = e
second_none (Some x) b e = absurd (no e)
  where
    no : Some x ≡ None → ⊥
    no q = cc

runs : (w : World) (n : NodeId) → option_or (admissible.no_node w n) (worlds.cannot_step w n) ≡ None → is_running w n ≡ true
unfolding admissible.stands
runs w n e = go (is_running w n) (first_none _ _ (second_none _ _ e))
  where
    go : (b : Bool) → admissible.stands (not b) (refusals.NotRunning n) ≡ None → b ≡ true
    go true q = refl
    go false q = absurd (no q)
      where
        no : Some (refusals.NotRunning n) ≡ None → ⊥
        no q = cc

client_is : (a b : ClientId) → (a.0 == b.0) ≡ true → a ≡ b
client_is a b e = ap (λ n. record { 0 = n }) (eqb-true a.0 b.0 e)

node_is : (n : NodeId) (c : ClientId) → same_node n (nodes.Client c) ≡ true → n ≡ nodes.Client c
node_is (nodes.Client d) c e = ap (λ x. nodes.Client x) (client_is d c e)
node_is (nodes.Server s) c e = cc e

module _ (t : ThirdWorld) (so : Sound (third_counted t)) (c : ClientId) (s : ServerId) (o : Over (third_counted t).world c s) where
  abbrev w : ThirdWorld
  w = third_counted t

  abbrev Bare : ThirdWorldTurn → Type 0
  Bare sc = is_emptied (present_life t.world c s) (association_of sc.third.world c s) ≡ true

  site_is : is_running t.world (nodes.Client c) ≡ true → o.site.node.running ≡ true
  site_is r = sym (ap site_runs o.there) ∙ r

  asked : (ask : ℕ → ThirdInput) (d : ClientId) → (d.0 == c.0) ≡ true → worlds.refused_ask t.world d ≡ None → Bare (every.asks_at w d ask (site_of w.world d))
  asked ask d e q =
      let i = client_is d c e in
      subst (λ x. Bare (every.asks_at w x ask (site_of w.world x))) (sym i)
      (asks_at w so c s o ask (site_is (runs t.world (nodes.Client c) (subst (λ x. worlds.refused_ask t.world x ≡ None) i q))))

  ticked : (n : NodeId) → same_node n (nodes.Client c) ≡ true → option_or (admissible.no_node t.world n) (worlds.cannot_step t.world n) ≡ None →
      Bare (every.ticks w n)
  unfolding every.ticks
  ticked n e q =
      let i = node_is n c e in
      subst (λ x. Bare (every.ticks w x)) (sym i)
      (at_client w so c s o _ (site_is (runs t.world (nodes.Client c) (subst (λ x. option_or (admissible.no_node t.world x) (worlds.cannot_step t.world x) ≡ None) i q))))

  delivered : (k : ℕ) (m : Option SentMessage) → message_of t.world k ≡ m → promises.is_receiver t.world c m ≡ true →
      worlds.refusal t (third.Plain (events.Deliver k)) ≡ None → Bare (every.delivers w m)
  unfolding every.delivers every.delivers_to
  delivered k None e r q = cc r
  delivered k (Some m) e r q =
      let i = node_is (receiver_of t.world m) c r in
      let run : is_running t.world (nodes.Client c) ≡ true = sym (ap (is_running t.world) i) ∙ runs_there t k m e q in
      subst (λ x. Bare (every.delivers_to w m.message x)) (sym i) (at_client w so c s o _ (site_is run))

-- the end of a command is told
told : (w : ThirdWorld) (so : Sound w) (c : ClientId) (s : ServerId) (o : Over w.world c s) (k : ℕ) (ok : Bool) (x : Option IssuedCommand) →
    safety.is_told w.world c x ≡ true → is_emptied (present_life w.world c s) (association_of (every.tells w k ok x).third.world c s) ≡ true
unfolding every.tells every.tells_client every.tells_site
told w so c s o k ok None r = cc r
told w so c s o k ok (Some x) r =
    let z = and_true (x.client.0 == c.0) _ r in
    let i = client_is x.client c z.0 in
    let same : ev.is_same_instance x o.site ≡ true = sym (ap (safety.is_told_at x) o.there) ∙ z.1 in
    let input : ThirdInput = takes.Plain (ev.end_told w.world k ok x) in
    subst (λ (d : ClientId). Left w so c s o (every.tells_client w k ok (record x { client = d }) (site_of w.world d))) (sym i)
    (subst (λ y. Left w so c s o (every.tells_client w k ok (record x { client = c }) y)) (sym o.there)
    (subst (λ b. Left w so c s o (if b then every.client_takes w c input o.site else unseen w)) (sym same)
    (takes_it w so c s o o.site input refl (and_true o.site.node.running _ same).0)))

left_bare : (t : ThirdWorld) → Sound t → (c : ClientId) (s : ServerId) → Over t.world c s → (e : ThirdEvent) → promises.takes_step t.world c e ≡ true →
    worlds.refusal t e ≡ None →
    is_emptied (present_life t.world c s) (association_of (every.happens (third_counted t) e).third.world c s) ≡ true
unfolding every.happens every.plain_happens every.reports_of worlds.refusal worlds.plain_refusal
left_bare t so c s o e h q = go e h q
  where
    w : ThirdWorld
    w = third_counted t

    counted : (v : ThirdWorld) → WorldFits v → is_third v.world.form ≡ true → Sound v
    counted v f g = record { fits = f; form = g }

    sw : Sound w
    sw = counted w (record { sites = so.fits.sites; there = so.fits.there; pairs = so.fits.pairs }) so.form

    ow : Over w.world c s
    ow = record { site = o.site; there = o.there; association = o.association; found = o.found; ended = o.ended }

    reported : (k : ℕ) (ok : Bool) → safety.is_told t.world c (issued_of t.world k) ≡ true →
        is_emptied (present_life t.world c s) (association_of (every.tells (every.with_report k ok w) k ok (issued_of w.world k)).third.world c s) ≡ true
    reported k ok h =
        told (every.with_report k ok w)
        (counted (every.with_report k ok w) (record { sites = so.fits.sites; there = so.fits.there; pairs = so.fits.pairs }) so.form) c s
        (record { site = o.site; there = o.there; association = o.association; found = o.found; ended = o.ended }) k ok (issued_of w.world k) h

    go : (e : ThirdEvent) → promises.takes_step t.world c e ≡ true → worlds.refusal t e ≡ None →
        is_emptied (present_life t.world c s) (association_of (every.happens w e).third.world c s) ≡ true
    go (third.Leave d r) h q = asked t sw c s ow _ d h q
    go (third.Plain (events.Tick n)) h q = ticked t sw c s ow n h q
    go (third.Plain (events.App d ask)) h q = asked t sw c s ow _ d h q
    go (third.Plain (events.Deliver k)) h q = delivered t sw c s ow k (message_of t.world k) refl h q
    go (third.Plain (events.Lose k)) h q = cc h
    go (third.Plain (events.Cut a b)) h q = cc h
    go (third.Plain (events.Heal a b)) h q = cc h
    go (third.Plain (events.Advance ds)) h q = cc h
    go (third.Plain (events.Effect k)) h q = cc h
    go (third.Plain (events.Report k ok)) h q = reported k ok h
    go (third.Plain (events.Crash n)) h q = cc h
    go (third.Plain (events.Start n)) h q = cc h

step_bare : (past : List ThirdStep) (t : ThirdTraced) (e : ThirdEvent) → Sound t.third → worlds.refusal t.third e ≡ None →
    Moved t.third (every.happens (third_counted t.third) e).third → ExpiredLeasesLeaveNothing past (steps.third_step t e (every.happens (third_counted t.third) e))
step_bare past t e so q mv = all_true (all_left_bare x) _ (λ c h. all_true (is_left_bare x c) _ (λ s i. one c s (promises.steps_expired x c s) refl))
  where
    x : ThirdStep
    x = steps.third_step t e (every.happens (third_counted t.third) e)

    one : (c : ClientId) (s : ServerId) (b : Bool) → promises.steps_expired x c s ≡ b →
        not b || is_emptied (present_life x.before.third.world c s) (association_of x.after.third.world c s) ≡ true
    one c s false r = refl
    one c s true r =
        let z = and_true (promises.takes_step t.third.world c e) (safety.is_expired t.third.world c s) r in
        left_bare t.third so c s (over t.third.world c s z.1) e z.0 q

pub every_expired_lease_leaves_nothing : EveryExpiredLeaseLeavesNothing
every_expired_lease_leaves_nothing k m clients servers disks blocks es =
    kept_throughout ExpiredLeasesLeaveNothing step_bare es [] (steps.third_traced (third_world k m clients servers disks blocks 3))
    (sound_first k m clients servers disks blocks)
