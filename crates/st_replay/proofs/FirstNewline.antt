-- The place of a first byte that is a newline.
use Rattle.std.proofs.Common.{◌≡◌, ℕ, zero, suc, ◌+◌, ◌<◌, ◌≤◌, false, List, length, take, get_or, refl, ◌∙◌, subst, arith}
use Rattle.std.specs.Prelude.{◌==◌, not, Option, None, Some}
use Rattle.std.proofs.Math.Seq.{take-length}
use Rattle.std.proofs.lemmas.Bool.{eqb-true, false_from_ne_true}
use Rattle.std.proofs.lemmas.List.Folds.{list_all_more}
use Rattle.memchr.specs.Find.{IsFirstByte, Nowhere, Passes, is_byte}
use Rattle.st_replay.specs.States.{HasNone, IsFirst}

none_up_to : (bs : List ℕ) (n : ℕ) → n ≤ length bs → Nowhere (Passes (is_byte 10) bs) 0 n → HasNone (take n bs)
none_up_to bs zero few h = refl
none_up_to bs (suc n) few h =
    let next : n + 1 ≡ suc n = omega arith in
    let before : HasNone (take n bs) = none_up_to bs n (omega (arith, few)) (λ k low high. h k low (omega (arith, high))) in
    let other : (get_or bs n 0 == 10) ≡ false = false_from_ne_true _ (h n (omega arith) (omega arith)) in
    subst (λ k. HasNone (take k bs)) next (list_all_more (λ b. not (b == 10)) bs n 0 (omega (arith, few)) ∙ rw (before, other) refl)

pub first_newline : (bs : List ℕ) (r : Option ℕ) → IsFirstByte (is_byte 10) bs r → IsFirst bs r
first_newline bs None h = subst HasNone (take-length bs) (none_up_to bs (length bs) (omega arith) h)
first_newline bs (Some at) h =
    let inside : at < length bs = h.0.high in
    (inside, eqb-true _ _ h.1, none_up_to bs at (omega (arith, inside)) h.0.before)
