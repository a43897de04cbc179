-- What is answered has no result, unless it is a cut, an ask for a name, or a change that was just written.
use Rattle.std.proofs.Common.{◌≡◌, ◌⊎◌, ℕ, true, ◌&&◌, List, [], ◌∷◌, ◌++◌, Some, None, refl, sym, subst}
use Rattle.st_base.specs.declared.ids.ClientId.{ClientId}
use Rattle.st_messages.specs.declared.answer.AppAnswer.{AppAnswer}
use Rattle.st_messages.specs.declared.answer.AppAnswer.TheVariants as answers
use Rattle.st_messages.specs.declared.ask.Ask.TheVariants as asks
use Rattle.st_messages.specs.declared.event.Event.{Event}
use Rattle.st_messages.specs.declared.event.Event.TheVariants as events
use Rattle.st_rules.specs.declared.observation.Observation.{Observation}
use Rattle.st_rules.specs.declared.observation.Observation.TheVariants as seen
use Rattle.st_rules.specs.History.{Traced, traced}
use Rattle.st_rules.specs.Safety.{AsksAreAnsweredOnce, Step, all_answered_once, all_followed, begins_written, is_followed, step}
use Rattle.st_rules.specs.World.{World, fresh_world}
use Rattle.st_lemmas.proofs.Tables.{and_true, each_passes, found_at}
use Rattle.st_lemmas.proofs.Truth.{client_is}
use Rattle.st_promises.specs.Safe.{EveryRunIsSafe}
use Rattle.st_laws_pages.proofs.Asks.World.{asks_of}
use Rattle.st_laws_volume.specs.AnswerKinds.{FilesAreAnsweredWithoutResults, ResultFits}
use Rattle.st_laws_volume.specs.Logs.{InEveryRun}
use Rattle.st_laws_volume.specs.Options.{OnSome}
use Rattle.st_laws_volume.specs.Results.{may_have_result}
use Rattle.st_laws_volume.specs.Seen.{cause_of, of_event, of_line}
use Rattle.st_laws_volume.specs.StepKinds.{AtEachStep}
use Rattle.st_laws_volume.specs.Witness.{Behind, Witness, before_line, next_op, of_delivery, of_lines, steps_of}
use Rattle.st_laws_volume.proofs.AnswerSteps.{delivery_silent, event_silent}
use Rattle.st_laws_volume.proofs.AskedAsks.{AreOf, Asked}
use Rattle.st_laws_volume.proofs.Carried.{IsGiven, given_in}
use Rattle.st_laws_volume.proofs.ChangeLines.{on_both}
use Rattle.st_laws_volume.proofs.KeptResults.{AllRight, ResultsHold, answer_right, change_right, delivery_right, only_those, results_begin, results_kept, run_kept, step_right}
use Rattle.st_laws_volume.proofs.OpenAnswers.{OfAnswers, at_both, at_silent}
use Rattle.st_laws_volume.proofs.Options.{on_more}
use Rattle.st_laws_volume.proofs.ReadRanges.{Written, written_is}
use Rattle.st_laws_volume.proofs.ToldSteps.{event_kept, is_kept}
use Rattle.st_volume.specs.declared.step.VolumeStep.{VolumeStep}
use Rattle.st_volume.specs.declared.step.VolumeStep.TheVariants as kinds
use Rattle.st_volume.specs.Volume as volume
use Rattle.st_volume.specs.Volume.{Volume, is_ask, run}

fits_now : (c : ClientId) (op : ℕ) (answer : AppAnswer) (u : Volume) → AllRight None u → ResultFits (kinds.Answered c op answer) u
fits_now c op answers.Written u h = tt
fits_now c op answer u h = λ a q. each_passes may_have_result u.pending (only_those u h) a (found_at (is_ask c op) u.pending a q).1

module _ (w : World) where
  abbrev Goes : List Observation → Volume → Type 0
  Goes os v = AtEachStep ResultFits (of_lines w os) v

  answered_then : (c : ClientId) (op : ℕ) (it : VolumeStep) (os : List Observation) (v : Volume) → is_kept it ≡ true → ((u : Volume) → ResultFits it u) →
      AllRight None v → ((u : Volume) → AllRight None u → Goes os u) →
      AtEachStep ResultFits (kinds.TakesEffect c op ∷ it ∷ kinds.Answered c op answers.Written ∷ of_lines w os) v
  unfolding AtEachStep
  answered_then c op it os v q f h k = (
    tt,
    on_more (AllRight (Some (c, op))) (λ u. AtEachStep ResultFits (it ∷ kinds.Answered c op answers.Written ∷ of_lines w os) u)
        (λ u m. (
          f u,
          on_more (AllRight (Some (c, op))) (λ z. AtEachStep ResultFits (kinds.Answered c op answers.Written ∷ of_lines w os) z)
              (λ z n. (
                tt,
                on_more (AllRight None) (λ y. Goes os y) k (volume.step z (kinds.Answered c op answers.Written)) (answer_right z c op answers.Written n),
              ))
              (volume.step u it) (step_right (Some (c, op)) u it q m),
        ))
        (volume.step v (kinds.TakesEffect c op)) (change_right v c op h),
  )

  change_then : (c : ClientId) (it : VolumeStep) (a : Observation) (os : List Observation) (v : Volume) → is_kept it ≡ true → ((u : Volume) → ResultFits it u) →
      begins_written c (a ∷ os) ≡ true → AllRight None v → ((u : Volume) → AllRight None u → Goes os u) →
      AtEachStep ResultFits (kinds.TakesEffect c (next_op (a ∷ os)) ∷ it ∷ of_lines w (a ∷ os)) v
  unfolding of_lines before_line of_line
  change_then c it a os v q f b h k = go (written_is c a b)
    where
      go : Written a → AtEachStep ResultFits (kinds.TakesEffect c (next_op (a ∷ os)) ∷ it ∷ of_lines w (a ∷ os)) v
      go (d, op, e) =
          let same : d ≡ c = client_is d c (subst (λ y. begins_written c (y ∷ os) ≡ true) e b) in
          subst (λ y. AtEachStep ResultFits (kinds.TakesEffect c (next_op (y ∷ os)) ∷ it ∷ of_lines w (y ∷ os)) v) (sym e)
          (subst (λ z. AtEachStep ResultFits (kinds.TakesEffect c op ∷ it ∷ kinds.Answered z op answers.Written ∷ of_lines w os) v) (sym same)
          (answered_then c op it os v q f h k))

  one_then : (it : VolumeStep) (os : List Observation) (v : Volume) → is_kept it ≡ true → ResultFits it v → AllRight None v →
      ((u : Volume) → AllRight None u → Goes os u) → AtEachStep ResultFits (it ∷ of_lines w os) v
  unfolding AtEachStep
  one_then it os v q f h k = (f, on_more (AllRight None) (λ u. Goes os u) k (volume.step v it) (step_right None v it q h))

  pub lines_fit : (os : List Observation) (v : Volume) → all_followed os ≡ true → AllRight None v → Goes os v
  unfolding of_lines before_line of_line all_followed AtEachStep
  lines_fit [] v g h = tt
  lines_fit (seen.Wrote i c f p bytes ∷ []) v g h = cc g
  lines_fit (seen.Wrote i c f p bytes ∷ (a ∷ os)) v g h =
      let b = and_true (begins_written c (a ∷ os)) (all_followed (a ∷ os)) g in
      let t = and_true (is_followed a os) (all_followed os) b.1 in
      change_then c (kinds.Joined i (Some c) (asks.Write f p bytes)) a os v refl (λ u. tt) b.0 h (λ u k. lines_fit os u t.1 k)
  lines_fit (seen.Patched i c f p at bytes ∷ []) v g h = cc g
  lines_fit (seen.Patched i c f p at bytes ∷ (a ∷ os)) v g h =
      let b = and_true (begins_written c (a ∷ os)) (all_followed (a ∷ os)) g in
      let t = and_true (is_followed a os) (all_followed os) b.1 in
      change_then c (kinds.Joined i (Some c) (asks.Patch f p at bytes)) a os v refl (λ u. tt) b.0 h (λ u k. lines_fit os u t.1 k)
  lines_fit (seen.CutAt i f p ∷ os) v g h = one_then (kinds.Joined i None (asks.Cut f p)) os v refl tt h (λ u k. lines_fit os u g k)
  lines_fit (seen.Hardened i ∷ os) v g h = one_then (kinds.Hardened i) os v refl tt h (λ u k. lines_fit os u g k)
  lines_fit (seen.Dropped i cause ∷ os) v g h = one_then (kinds.Dropped i (cause_of w cause)) os v refl tt h (λ u k. lines_fit os u g k)
  lines_fit (seen.Answered c op answer ∷ os) v g h = one_then (kinds.Answered c op answer) os v refl (fits_now c op answer v h) h (λ u k. lines_fit os u g k)
  lines_fit (seen.Sent k m ∷ os) v g h = lines_fit os v g h
  lines_fit (seen.Submitted k c number what ∷ os) v g h = lines_fit os v g h
  lines_fit (seen.Leased c s end ∷ os) v g h = lines_fit os v g h
  lines_fit (seen.Lost c s life ∷ os) v g h = lines_fit os v g h
  lines_fit (seen.Suspected s c start ∷ os) v g h = lines_fit os v g h
  lines_fit (seen.Stolen s c life ∷ os) v g h = lines_fit os v g h

-- All steps of an event.
silent_fits : OfAnswers ResultFits
silent_fits (kinds.Answered c op answer) v q = cc
silent_fits it v q = tt

module _ (as_ : Asked) (bs : List Behind) (v : Volume) (w : World) (os : List Observation) (r : AreOf as_ v) (followed : all_followed os ≡ true)
    (h : AllRight None v) where
  -- an event other than a delivery
  plain_fits : (e : Event) → AtEachStep ResultFits (of_event w e ++ of_lines w os) v
  plain_fits e =
      at_both ResultFits (of_event w e) (of_lines w os) v (at_silent ResultFits silent_fits (of_event w e) v (event_silent w e))
      (on_more (AllRight None) (AtEachStep ResultFits (of_lines w os)) (λ u k. lines_fit w os u followed k) (run (of_event w e) v)
      (run_kept None (of_event w e) v (event_kept w e) h))

  event_fits : (e : Event) → AtEachStep ResultFits (of_event w e ++ (of_delivery bs v w e ++ of_lines w os)) v
  unfolding of_event
  event_fits (events.Deliver k) =
      at_both ResultFits (of_delivery bs v w (events.Deliver k)) (of_lines w os) v
      (at_silent ResultFits silent_fits (of_delivery bs v w (events.Deliver k)) v (delivery_silent bs v w (events.Deliver k)))
      (on_more (AllRight None) (AtEachStep ResultFits (of_lines w os)) (λ u k. lines_fit w os u followed k) (run (of_delivery bs v w (events.Deliver k)) v)
      (delivery_right as_ bs v r h w (events.Deliver k)))
  event_fits (events.Tick n) = plain_fits (events.Tick n)
  event_fits (events.App c ask) = plain_fits (events.App c ask)
  event_fits (events.Lose k) = plain_fits (events.Lose k)
  event_fits (events.Cut from to) = plain_fits (events.Cut from to)
  event_fits (events.Heal from to) = plain_fits (events.Heal from to)
  event_fits (events.Advance increments) = plain_fits (events.Advance increments)
  event_fits (events.Effect k) = plain_fits (events.Effect k)
  event_fits (events.Report k ok) = plain_fits (events.Report k ok)
  event_fits (events.Crash n) = plain_fits (events.Crash n)
  event_fits (events.Start n) = plain_fits (events.Start n)

-- In every run.
FitsToo : List Step → Step → Witness → Type 0
FitsToo past x it = OnSome (λ v. AtEachStep ResultFits (steps_of it v x) v) it.volume

fits_on : IsGiven AsksAreAnsweredOnce ResultsHold FitsToo
unfolding FitsToo
fits_on past t e sc it f g h =
    let x : Step = step t e sc in (
      on_more (λ v. AreOf (asks_of past) v × AllRight None v) (λ v. AtEachStep ResultFits (steps_of it v x) v)
          (λ v k. event_fits (asks_of past) it.behind v t.world sc.seen k.0 (and_true (all_answered_once past x [] x.seen) (all_followed x.seen) g).1 k.1 e)
          it.volume (on_both (AreOf (asks_of past)) (AllRight None) it.volume h.asks h.results),
      results_kept past t e sc it f g h,
    )

pub files_are_answered_without_results : EveryRunIsSafe → InEveryRun FilesAreAnsweredWithoutResults
unfolding FitsToo
files_are_answered_without_results safe k clients servers disks blocks form es head events =
    let t : Traced = traced (fresh_world k clients servers disks blocks form) in
    given_in AsksAreAnsweredOnce ResultsHold FitsToo fits_on es t (results_begin k clients servers disks blocks form)
    (safe k clients servers disks blocks form es head events).once
