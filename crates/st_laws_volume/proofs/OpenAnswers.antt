-- In every run each answer is one to an open ask of the volume.
use Rattle.std.proofs.Common.{◌≡◌, true, List, [], ◌∷◌, ◌++◌, Option, Some, None, Ok, refl, sym, ap, ◌∙◌, subst, append_assoc}
use Rattle.std.specs.Prelude.{option_and_then}
use Rattle.std.specs.List.{list_all}
use Rattle.st_base.specs.declared.ids.ClientId.{ClientId}
use Rattle.st_messages.specs.declared.ask.Ask.TheVariants as asks
use Rattle.st_messages.specs.declared.event.Event.{Event}
use Rattle.st_rules.specs.declared.observation.Observation.{Observation}
use Rattle.st_rules.specs.declared.observation.Observation.TheVariants as seen
use Rattle.st_rules.specs.Events.{WorldTurn, world_step}
use Rattle.st_rules.specs.History.{Traced, traced}
use Rattle.st_rules.specs.Safety.{Step, step, steps}
use Rattle.st_rules.specs.World.{World, fresh_world, site_of}
use Rattle.st_lemmas.proofs.Tables.{and_true}
use Rattle.st_lemmas.proofs.Truth.{eqb_self}
use Rattle.st_laws_pages.specs.Asks.Law.{PlacesHold}
use Rattle.st_laws_pages.specs.Disks.Obligations.{FatesHold}
use Rattle.st_laws_pages.proofs.Asks.Law.{places_law}
use Rattle.st_laws_pages.proofs.Causes.Placed.{places_at}
use Rattle.st_laws_pages.proofs.Disks.Whole.{fates_law}
use Rattle.st_laws_volume.specs.Asks.{HasAsksOf, at_site, in_volume}
use Rattle.st_laws_volume.specs.StepKinds.{AnswersAreToOpenAsks, AtEachStep, IsOpenAt}
use Rattle.st_laws_volume.specs.Logs.{InEveryRun}
use Rattle.st_laws_volume.specs.Options.{OnSome}
use Rattle.st_laws_volume.specs.Seen.{cause_of, of_event, of_line}
use Rattle.st_laws_volume.specs.Witness.{Behind, Witness, before_line, next_op, of_delivery, of_lines, steps_of}
use Rattle.st_laws_volume.proofs.AnswerSteps.{delivery_silent, event_silent, is_silent, open_there}
use Rattle.st_laws_volume.proofs.AskEvents.{AllOpenFor, event_leaves}
use Rattle.st_laws_volume.proofs.Asks.{AsksHold, Given, asks_begin, asks_kept, before_dull, delivery_dull, of_each}
use Rattle.st_laws_volume.proofs.AskSteps.{run_tells, told_all, told_both}
use Rattle.st_laws_volume.proofs.Carried.{IsGiven, given_in}
use Rattle.st_laws_volume.proofs.Options.{on_all, on_more}
use Rattle.st_laws_volume.proofs.ReadPages.{throughout_both}
use Rattle.st_volume.specs.declared.step.VolumeStep.{VolumeStep}
use Rattle.st_volume.specs.declared.step.VolumeStep.TheVariants as kinds
use Rattle.st_volume.specs.Volume as volume
use Rattle.st_volume.specs.Volume.{Volume, run}

-- Steps in two parts, and steps that aren't answers.
pub at_both : (fact : VolumeStep → Volume → Type 0) (xs ys : List VolumeStep) (v : Volume) → AtEachStep fact xs v → OnSome (AtEachStep fact ys) (run xs v) →
    AtEachStep fact (xs ++ ys) v
unfolding AtEachStep run
at_both fact [] ys v a b = b
at_both fact (x ∷ xs) ys v a b = (a.0, go (volume.step v x) a.1 b (λ u. at_both fact xs ys u))
  where
    go : (o : Option Volume) → OnSome (AtEachStep fact xs) o → OnSome (AtEachStep fact ys) (option_and_then (run xs) o) →
        ((u : Volume) → AtEachStep fact xs u → OnSome (AtEachStep fact ys) (run xs u) → AtEachStep fact (xs ++ ys) u) →
        OnSome (AtEachStep fact (xs ++ ys)) o
    go None p q h = tt
    go (Some u) p q h = h u p q

-- a fact of answers alone
abbrev pub OfAnswers : (VolumeStep → Volume → Type 0) → Type 0
OfAnswers fact = (it : VolumeStep) (v : Volume) → is_silent it ≡ true → fact it v

pub at_silent : (fact : VolumeStep → Volume → Type 0) → OfAnswers fact → (its : List VolumeStep) (v : Volume) → list_all is_silent its ≡ true →
    AtEachStep fact its v
unfolding AtEachStep
at_silent fact of [] v q = tt
at_silent fact of (it ∷ its) v q =
    let b = and_true (is_silent it) (list_all is_silent its) q in
    (of it v b.0, on_all (AtEachStep fact its) (λ u. at_silent fact of its u b.1) (volume.step v it))

pub at_one : (fact : VolumeStep → Volume → Type 0) (it : VolumeStep) (v : Volume) → fact it v → AtEachStep fact (it ∷ []) v
unfolding AtEachStep
at_one fact it v h = (h, on_all (AtEachStep fact []) (λ u. tt) (volume.step v it))

open_silent : OfAnswers IsOpenAt
open_silent (kinds.Answered c op answer) v q = cc
open_silent it v q = tt

-- Each answer of these lines is one to an open ask.
module _ (w : World) where
  abbrev pub Open : List Observation → Volume → Type 0
  Open os u = (c : ClientId) → AllOpenFor w c os (in_volume u c)

  abbrev pub block : Observation → List Observation → List VolumeStep
  block o os = before_line o os ++ of_line w o

  pub block_open : (o : Observation) (os : List Observation) (u : Volume) → Open (o ∷ os) u → OnSome (Open os) (run (block o os) u)
  block_open o os u h =
      on_more (λ z. (c : ClientId) → in_volume z c ≡ told_all c (block o os) (in_volume u c)) (Open os)
      (λ z k c. subst (AllOpenFor w c os)
      (sym (k c ∙ (told_both c (before_line o os) (of_line w o) (in_volume u c) ∙ ap (told_all c (of_line w o)) (before_dull c o os (in_volume u c)))))
      (h c).1)
      (run (block o os) u)
      (of_each (block o os) u (run (block o os) u) (λ c. run_tells c (block o os) u))

  -- after what is seen of the event itself, and after what a server does with a request
  pub first_open : (e : Event) (os : List Observation) (v : Volume) → ((c : ClientId) → AllOpenFor w c os (told_all c (of_event w e) (in_volume v c))) →
      OnSome (Open os) (run (of_event w e) v)
  first_open e os v h =
      on_more (λ y. (c : ClientId) → in_volume y c ≡ told_all c (of_event w e) (in_volume v c)) (Open os)
      (λ y j c. subst (AllOpenFor w c os) (sym (j c)) (h c)) (run (of_event w e) v)
      (of_each (of_event w e) v (run (of_event w e) v) (λ c. run_tells c (of_event w e) v))

  pub served_open : (e : Event) (os : List Observation) (bs : List Behind) (v y : Volume) → Open os y → OnSome (Open os) (run (of_delivery bs v w e) y)
  served_open e os bs v y h =
      on_more (λ z. (c : ClientId) → in_volume z c ≡ told_all c (of_delivery bs v w e) (in_volume y c)) (Open os)
      (λ z j c. subst (AllOpenFor w c os) (sym (j c ∙ delivery_dull c bs v w e (in_volume y c))) (h c)) (run (of_delivery bs v w e) y)
      (of_each (of_delivery bs v w e) y (run (of_delivery bs v w e) y) (λ c. run_tells c (of_delivery bs v w e) y))

  block_opened : (o : Observation) (os : List Observation) (u : Volume) → Open (o ∷ os) u → AtEachStep IsOpenAt (block o os) u
  unfolding before_line of_line AtEachStep
  block_opened (seen.Answered c op answer) os u h =
      at_one IsOpenAt (kinds.Answered c op answer) u (open_there c op u ((h c).0 (eqb_self c.0)))
  block_opened (seen.Wrote i c f p bytes) os u h =
      at_silent IsOpenAt open_silent (kinds.TakesEffect c (next_op os) ∷ kinds.Joined i (Some c) (asks.Write f p bytes) ∷ []) u refl
  block_opened (seen.Patched i c f p at bytes) os u h =
      at_silent IsOpenAt open_silent (kinds.TakesEffect c (next_op os) ∷ kinds.Joined i (Some c) (asks.Patch f p at bytes) ∷ []) u refl
  block_opened (seen.CutAt i f p) os u h = at_silent IsOpenAt open_silent (kinds.Joined i None (asks.Cut f p) ∷ []) u refl
  block_opened (seen.Hardened i) os u h = at_silent IsOpenAt open_silent (kinds.Hardened i ∷ []) u refl
  block_opened (seen.Dropped i cause) os u h = at_silent IsOpenAt open_silent (kinds.Dropped i (cause_of w cause) ∷ []) u refl
  block_opened (seen.Sent k m) os u h = tt
  block_opened (seen.Submitted k c number what) os u h = tt
  block_opened (seen.Leased c s end) os u h = tt
  block_opened (seen.Lost c s life) os u h = tt
  block_opened (seen.Suspected s c start) os u h = tt
  block_opened (seen.Stolen s c life) os u h = tt

  lines_opened : (os : List Observation) (u : Volume) → Open os u → AtEachStep IsOpenAt (of_lines w os) u
  unfolding of_lines AtEachStep
  lines_opened [] u h = tt
  lines_opened (o ∷ os) u h =
      subst (λ its. AtEachStep IsOpenAt its u) (append_assoc (before_line o os) (of_line w o) (of_lines w os))
      (at_both IsOpenAt (block o os) (of_lines w os) u (block_opened o os u h)
      (on_more (Open os) (AtEachStep IsOpenAt (of_lines w os)) (λ z j. lines_opened os z j) (run (block o os) u) (block_open o os u h)))

-- All steps of an event.
steps_opened : (it : Witness) (x : Step) (v : Volume) →
    ((c : ClientId) → AllOpenFor x.before.world c x.seen (told_all c (of_event x.before.world x.event) (in_volume v c))) →
    AtEachStep IsOpenAt (steps_of it v x) v
steps_opened it x v h =
    let w : World = x.before.world in
    let first : List VolumeStep = of_event w x.event in
    let served : List VolumeStep = of_delivery it.behind v w x.event in
    let all : List VolumeStep = of_lines w x.seen in
    at_both IsOpenAt first (served ++ all) v (at_silent IsOpenAt open_silent first v (event_silent w x.event))
    (on_more (Open w x.seen) (AtEachStep IsOpenAt (served ++ all))
    (λ y k. at_both IsOpenAt served all y (at_silent IsOpenAt open_silent served y (delivery_silent it.behind v w x.event))
    (on_more (Open w x.seen) (AtEachStep IsOpenAt all) (λ z j. lines_opened w x.seen z j) (run served y) (served_open w x.event x.seen it.behind v y k)))
    (run first v) (first_open w x.event x.seen v h))

-- In every run.
pub open_left : (past : List Step) (t : Traced) (e : Event) (sc : WorldTurn) (it : Witness) → world_step t.world e ≡ Ok sc → AsksHold past t it →
    (c : ClientId) → AllOpenFor t.world c sc.seen (told_all c (of_event t.world e) (at_site (site_of t.world c)))
open_left past t e sc it f h = (event_leaves t.world e h.rests h.fates.lives.lives.sites (places_at t.world h.places) h.counted sc f).opened

OpenToo : List Step → Step → Witness → Type 0
OpenToo past x it = OnSome (λ v. AtEachStep IsOpenAt (steps_of it v x) v) it.volume

open_on : IsGiven Given AsksHold OpenToo
unfolding OpenToo
open_on past t e sc it f g h = (
  on_more (HasAsksOf t.world) (λ v. AtEachStep IsOpenAt (steps_of it v (step t e sc)) v)
      (λ v k. steps_opened it (step t e sc) v
      (λ c. subst (λ a. AllOpenFor t.world c sc.seen (told_all c (of_event t.world e) a)) (sym (k c)) (open_left past t e sc it f h c)))
      it.volume h.agree,
  asks_kept past t e sc it f g h,
)

pub answers_are_to_open_asks : InEveryRun AnswersAreToOpenAsks
unfolding OpenToo
answers_are_to_open_asks k clients servers disks blocks form es head events =
    let t : Traced = traced (fresh_world k clients servers disks blocks form) in
    given_in Given AsksHold OpenToo open_on es t (asks_begin k clients servers disks blocks form)
    (throughout_both (λ past x. FatesHold x.after.world) (λ past x. PlacesHold x.after.world) [] (steps es t)
    (fates_law k clients servers disks blocks form es) (places_law k clients servers disks blocks form es head))
