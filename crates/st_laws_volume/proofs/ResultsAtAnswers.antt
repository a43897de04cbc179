-- At each answer of an event, except for `written`: the open asks that have a result are those of which a fact is known.
use Rattle.std.proofs.Common.{◌≡◌, ℕ, true, ◌&&◌, List, [], ◌∷◌, ◌++◌, Some, None, refl, sym, subst}
use Rattle.st_base.specs.declared.ids.ClientId.{ClientId}
use Rattle.st_messages.specs.declared.answer.AppAnswer.{AppAnswer}
use Rattle.st_messages.specs.declared.answer.AppAnswer.TheVariants as answers
use Rattle.st_messages.specs.declared.ask.Ask.TheVariants as asks
use Rattle.st_rules.specs.declared.observation.Observation.{Observation}
use Rattle.st_rules.specs.declared.observation.Observation.TheVariants as seen
use Rattle.st_rules.specs.Safety.{all_followed, begins_written, is_followed}
use Rattle.st_rules.specs.World.{World}
use Rattle.st_lemmas.proofs.Tables.{and_true}
use Rattle.st_lemmas.proofs.Truth.{client_is}
use Rattle.st_laws_volume.specs.Seen.{cause_of, of_line}
use Rattle.st_laws_volume.specs.StepKinds.{AtEachStep}
use Rattle.st_laws_volume.specs.Witness.{before_line, next_op, of_lines}
use Rattle.st_laws_volume.proofs.OpenResults.{AllFine, answer_fine, change_fine, step_fine}
use Rattle.st_laws_volume.proofs.Options.{on_more}
use Rattle.st_laws_volume.proofs.ReadRanges.{Written, written_is}
use Rattle.st_laws_volume.proofs.ToldSteps.{is_kept}
use Rattle.st_volume.specs.declared.step.VolumeStep.{VolumeStep}
use Rattle.st_volume.specs.declared.step.VolumeStep.TheVariants as kinds
use Rattle.st_volume.specs.Volume as volume
use Rattle.st_volume.specs.Volume.{Volume}

module _ (S : ClientId → ℕ → Type 0) where
  abbrev pub FineAt : VolumeStep → Volume → Type 0
  FineAt (kinds.Answered c op answers.Written) u = Unit {0}
  FineAt (kinds.Answered c op answer) u = AllFine S None u
  FineAt it u = Unit {0}

  fine_now : (c : ClientId) (op : ℕ) (answer : AppAnswer) (u : Volume) → AllFine S None u → FineAt (kinds.Answered c op answer) u
  fine_now c op answers.Written u h = tt
  fine_now c op answer u h = h

  module _ (w : World) where
    abbrev Goes : List Observation → Volume → Type 0
    Goes os v = AtEachStep FineAt (of_lines w os) v

    answered_then : (c : ClientId) (op : ℕ) (it : VolumeStep) (os : List Observation) (v : Volume) → is_kept it ≡ true → ((u : Volume) → FineAt it u) →
        AllFine S None v → ((u : Volume) → AllFine S None u → Goes os u) →
        AtEachStep FineAt (kinds.TakesEffect c op ∷ it ∷ kinds.Answered c op answers.Written ∷ of_lines w os) v
    unfolding AtEachStep
    answered_then c op it os v q f h k = (
      tt,
      on_more (AllFine S (Some (c, op))) (λ u. AtEachStep FineAt (it ∷ kinds.Answered c op answers.Written ∷ of_lines w os) u)
          (λ u m. (
            f u,
            on_more (AllFine S (Some (c, op))) (λ z. AtEachStep FineAt (kinds.Answered c op answers.Written ∷ of_lines w os) z)
                (λ z n. (
                  tt,
                  on_more (AllFine S None) (λ y. Goes os y) k (volume.step z (kinds.Answered c op answers.Written)) (answer_fine S z c op answers.Written n),
                ))
                (volume.step u it) (step_fine S (Some (c, op)) u it q m),
          ))
          (volume.step v (kinds.TakesEffect c op)) (change_fine S v c op h),
    )

    change_then : (c : ClientId) (it : VolumeStep) (a : Observation) (os : List Observation) (v : Volume) → is_kept it ≡ true → ((u : Volume) → FineAt it u) →
        begins_written c (a ∷ os) ≡ true → AllFine S None v → ((u : Volume) → AllFine S None u → Goes os u) →
        AtEachStep FineAt (kinds.TakesEffect c (next_op (a ∷ os)) ∷ it ∷ of_lines w (a ∷ os)) v
    unfolding of_lines before_line of_line
    change_then c it a os v q f b h k = go (written_is c a b)
      where
        go : Written a → AtEachStep FineAt (kinds.TakesEffect c (next_op (a ∷ os)) ∷ it ∷ of_lines w (a ∷ os)) v
        go (d, op, e) =
            let same : d ≡ c = client_is d c (subst (λ y. begins_written c (y ∷ os) ≡ true) e b) in
            subst (λ y. AtEachStep FineAt (kinds.TakesEffect c (next_op (y ∷ os)) ∷ it ∷ of_lines w (y ∷ os)) v) (sym e)
            (subst (λ z. AtEachStep FineAt (kinds.TakesEffect c op ∷ it ∷ kinds.Answered z op answers.Written ∷ of_lines w os) v) (sym same)
            (answered_then c op it os v q f h k))

    one_then : (it : VolumeStep) (os : List Observation) (v : Volume) → is_kept it ≡ true → FineAt it v → AllFine S None v →
        ((u : Volume) → AllFine S None u → Goes os u) → AtEachStep FineAt (it ∷ of_lines w os) v
    unfolding AtEachStep
    one_then it os v q f h k = (f, on_more (AllFine S None) (λ u. Goes os u) k (volume.step v it) (step_fine S None v it q h))

    pub lines_fine_at : (os : List Observation) (v : Volume) → all_followed os ≡ true → AllFine S None v → Goes os v
    unfolding of_lines before_line of_line all_followed AtEachStep
    lines_fine_at [] v g h = tt
    lines_fine_at (seen.Wrote i c f p bytes ∷ []) v g h = cc g
    lines_fine_at (seen.Wrote i c f p bytes ∷ (a ∷ os)) v g h =
        let b = and_true (begins_written c (a ∷ os)) (all_followed (a ∷ os)) g in
        let t = and_true (is_followed a os) (all_followed os) b.1 in
        change_then c (kinds.Joined i (Some c) (asks.Write f p bytes)) a os v refl (λ u. tt) b.0 h (λ u k. lines_fine_at os u t.1 k)
    lines_fine_at (seen.Patched i c f p at bytes ∷ []) v g h = cc g
    lines_fine_at (seen.Patched i c f p at bytes ∷ (a ∷ os)) v g h =
        let b = and_true (begins_written c (a ∷ os)) (all_followed (a ∷ os)) g in
        let t = and_true (is_followed a os) (all_followed os) b.1 in
        change_then c (kinds.Joined i (Some c) (asks.Patch f p at bytes)) a os v refl (λ u. tt) b.0 h (λ u k. lines_fine_at os u t.1 k)
    lines_fine_at (seen.CutAt i f p ∷ os) v g h = one_then (kinds.Joined i None (asks.Cut f p)) os v refl tt h (λ u k. lines_fine_at os u g k)
    lines_fine_at (seen.Hardened i ∷ os) v g h = one_then (kinds.Hardened i) os v refl tt h (λ u k. lines_fine_at os u g k)
    lines_fine_at (seen.Dropped i cause ∷ os) v g h = one_then (kinds.Dropped i (cause_of w cause)) os v refl tt h (λ u k. lines_fine_at os u g k)
    lines_fine_at (seen.Answered c op answer ∷ os) v g h =
        one_then (kinds.Answered c op answer) os v refl (fine_now c op answer v h) h (λ u k. lines_fine_at os u g k)
    lines_fine_at (seen.Sent k m ∷ os) v g h = lines_fine_at os v g h
    lines_fine_at (seen.Submitted k c number what ∷ os) v g h = lines_fine_at os v g h
    lines_fine_at (seen.Leased c s end ∷ os) v g h = lines_fine_at os v g h
    lines_fine_at (seen.Lost c s life ∷ os) v g h = lines_fine_at os v g h
    lines_fine_at (seen.Suspected s c start ∷ os) v g h = lines_fine_at os v g h
    lines_fine_at (seen.Stolen s c life ∷ os) v g h = lines_fine_at os v g h
