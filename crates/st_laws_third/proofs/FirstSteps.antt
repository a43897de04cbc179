-- The steps of a run of the first two forms, by the definitions of every form, are those by their own, as promises see them.
use Rattle.st_lemmas.proofs.Words
use Words.{◌≡◌, false, List, [], ◌∷◌, map, list_any, refl, ap, ◌∙◌, if◌then◌else◌, Option, Some, None, Ok}
use Words.{ClientId, Event, Observation, ServerId, WorldRefusal}
use Words.Admissible as admissible
use Words.Events as ev
use Words.Events.{WorldTurn, counted}
use Words.History as history
use Words.History.{History, lease_date, with_date}
use Words.World.{World, fresh_world}
use Rattle.st_rules.specs.Safety as safety
use Rattle.st_rules.specs.declared.observation.Observation.TheVariants as plainly
use Rattle.st_third.specs.declared.event.ThirdEvent.TheVariants as third
use Rattle.st_third.specs.Events as every
use Rattle.st_third.specs.Events.{ThirdWorldTurn, plain_seen, third_counted}
use Rattle.st_third.specs.Limits.{first_limits, is_third}
use Rattle.st_third.specs.Steps as steps
use Rattle.st_third.specs.Steps.{ThirdTraced, plain_step, plain_traced, plainly_seen, third_traced}
use Rattle.st_third.specs.World as worlds
use Rattle.st_third.specs.World.{third_world}
use Rattle.st_laws_third.specs.FirstForms.{FirstStepsStay, as_third}
use Rattle.st_laws_third.proofs.FirstRuns.{form_stays, limits_stay}
use Rattle.st_laws_third.proofs.FirstWorlds.{IsTurn, happens_is, refusal_is}

-- What was observed.

seen_is : (os : List Observation) → plainly_seen (map plain_seen os) ≡ os
seen_is [] = refl
seen_is (o ∷ os) = λ i. o ∷ seen_is os i

none_ends : (c : ClientId) (s : ServerId) (os : List Observation) → list_any (steps.ends_here c s) (map plain_seen os) ≡ false
none_ends c s [] = refl
none_ends c s (o ∷ os) = none_ends c s os

-- The history after an event.

module _ (w : World) (sc : ThirdWorldTurn) (t : WorldTurn) (h : IsTurn sc t) where
  dated_is : (c : ClientId) (s : ServerId) → steps.world_dated w sc c s ≡ t.world
  unfolding steps.world_dated
  dated_is c s = ap (λ b. if b then w else sc.third.world) (ap (list_any (steps.ends_here c s)) h.seen ∙ none_ends c s t.seen) ∙ h.world

  recall_is : (x : History) (o : Observation) → steps.third_recall w sc x o ≡ history.recall w t.world x o
  unfolding steps.third_recall history.recall
  recall_is x (plainly.Leased c s end) = ap (λ v. with_date (lease_date v c s end) x) (dated_is c s)
  recall_is x (plainly.Sent k message) = refl
  recall_is x (plainly.Submitted k c number what) = refl
  recall_is x (plainly.Answered c op answer) = refl
  recall_is x (plainly.Wrote index c f p bytes) = ap (λ v. history.recall w v x (plainly.Wrote index c f p bytes)) h.world
  recall_is x (plainly.Patched index c f p at bytes) = ap (λ v. history.recall w v x (plainly.Patched index c f p at bytes)) h.world
  recall_is x (plainly.CutAt index f p) = ap (λ v. history.recall w v x (plainly.CutAt index f p)) h.world
  recall_is x (plainly.Hardened index) = refl
  recall_is x (plainly.Dropped index why) = refl
  recall_is x (plainly.Lost c s life) = refl
  recall_is x (plainly.Suspected s c start) = refl
  recall_is x (plainly.Stolen s c life) = refl

  recall_all_is : (os : List Observation) (x : History) → steps.third_recall_all w sc os x ≡ history.recall_all w t.world os x
  unfolding steps.third_recall_all history.recall_all
  recall_all_is [] x = refl
  recall_all_is (o ∷ os) x = recall_all_is os (steps.third_recall w sc x o) ∙ ap (history.recall_all w t.world os) (recall_is x o)

-- A step.

module _ (t : ThirdTraced) (e : Event) (sc : ThirdWorldTurn) (p : WorldTurn) (h : IsTurn sc p) where
  observed_is : plainly_seen sc.seen ≡ p.seen
  observed_is = ap plainly_seen h.seen ∙ seen_is p.seen

  after_is : plain_traced (steps.traced_after (third.Plain e) t sc) ≡ history.traced_after e (plain_traced t) p
  after_is =
      let x : History = history.remember t.third.world e t.history in
      let y = ap (λ os. steps.third_recall_all t.third.world sc os x) observed_is ∙ recall_all_is t.third.world sc p h p.seen x in
      λ i. record { world = h.world i; history = y i }

  step_is : plain_step (steps.third_step t (third.Plain e) sc) ≡ safety.step (plain_traced t) e p
  step_is = λ i. record { before = plain_traced t; event = e; seen = observed_is i; after = after_is i }

-- The steps of a run.

-- the steps over these events, from wherever they begin
abbrev Go_on : List Event → Type 0
Go_on es =
    (t : ThirdTraced) → is_third t.third.world.form ≡ false →
    map plain_step (steps.steps (map as_third es) t) ≡ safety.steps es (plain_traced t)

same_steps : (es : List Event) (t : ThirdTraced) → is_third t.third.world.form ≡ false →
    map plain_step (steps.steps (map as_third es) t) ≡ safety.steps es (plain_traced t)
unfolding steps.steps steps.steps_on safety.steps safety.steps_on every.world_step every.world_by worlds.refusal ev.world_step ev.world_by
same_steps [] t f = refl
same_steps (e ∷ es) t f =
    go (λ u. same_steps es u) (worlds.plain_refusal t.third.world e) (admissible.refusal t.third.world e) (refusal_is t.third.world f e)
  where
    on : Go_on es → (sc : ThirdWorldTurn) (p : WorldTurn) → IsTurn sc p → p.world.form ≡ t.third.world.form →
        map plain_step (steps.steps_on (steps.steps (map as_third es)) t (third.Plain e) (Ok sc)) ≡ safety.steps_on (safety.steps es) (plain_traced t) e (Ok p)
    on rest_of sc p h k =
        let kept : sc.third.world.form ≡ t.third.world.form = ap (λ (v : World). v.form) h.world ∙ k in
        let u : ThirdTraced = steps.traced_after (third.Plain e) t sc in
        let rest = rest_of u (ap is_third kept ∙ f) ∙ ap (safety.steps es) (after_is t e sc p h) in
        λ i. step_is t e sc p h i ∷ rest i

    go : Go_on es → (o q : Option WorldRefusal) → o ≡ q →
        map plain_step (steps.steps_on (steps.steps (map as_third es)) t (third.Plain e) (every.world_by t.third (third.Plain e) o))
        ≡ safety.steps_on (safety.steps es) (plain_traced t) e (ev.world_by t.third.world e q)
    go rest_of None None r =
        on rest_of (every.happens (third_counted t.third) (third.Plain e)) (ev.happens (counted t.third.world) e) (happens_is (third_counted t.third) e f)
        (form_stays (counted t.third.world) e)
    go rest_of (Some x) (Some y) r = refl
    go rest_of None (Some y) r = absurd cc
    go rest_of (Some x) None r = absurd cc

pub first_steps_stay : FirstStepsStay
unfolding third_world fresh_world
first_steps_stay k clients servers disks blocks form es f =
    let v : World = fresh_world k clients servers disks blocks form in
    let t : ThirdTraced = third_traced (third_world k first_limits clients servers disks blocks form) in
    let e : t.third.world ≡ v = limits_stay first_limits v f in
    same_steps es t (ap (λ (u : World). is_third u.form) e ∙ f) ∙ ap (λ u. safety.steps es (history.traced u)) e
