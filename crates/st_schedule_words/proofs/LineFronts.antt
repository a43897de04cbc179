-- Lines, from the front of some bytes.
use Rattle.std.proofs.Common.{◌≡◌, ℕ, ◌+◌, ◌<◌, ◌≤◌, true, false, cond, List, [], ◌∷◌, ◌++◌, length, take, drop, get_or, refl, sym, ◌∙◌, ap, arith, add-one, drop-cons, append-nil}
use Rattle.std.proofs.lemmas.Bool.{cond-false, cond-true}
use Rattle.std.specs.Prelude.{◌==◌}
use Rattle.std.proofs.lemmas.List.{take_more, take_all, drop_all}
use Rattle.st_schedule_words.specs.Words.{onto}
use Rattle.st_schedule_words.specs.Lines.{lines_of}
use Rattle.st_schedule_words.proofs.Words.{front, front-push, front-word}

lines_at : (bs : List ℕ) (at : ℕ) → at < length bs →
    lines_of (drop at bs) ≡ cond (get_or bs at 0 == 10) ([] ∷ lines_of (drop (at + 1) bs)) (onto (get_or bs at 0) (lines_of (drop (at + 1) bs)))
lines_at bs at h = rw (drop-cons bs at 0 h, add-one) refl

front-none : (b : ℕ) (bs : List ℕ) → front (b ∷ bs) [] ≡ (b ∷ bs) ∷ []
front-none b [] = refl
front-none b (c ∷ bs) = rw (front-none c bs) refl

-- a loop over the bytes up to the first newline: one byte more, the newline, the end
pub one_more : (bs : List ℕ) (at : ℕ) → at < length bs → (get_or bs at 0 == 10) ≡ false →
    front (take at bs) (lines_of (drop at bs)) ≡ lines_of bs → front (take (at + 1) bs) (lines_of (drop (at + 1) bs)) ≡ lines_of bs
one_more bs at h other k =
    rw (take_more bs at 0 h, front-push) (ap (front (take at bs)) (sym (lines_at bs at h ∙ cond-false _ _ _ other)) ∙ k)

pub at_newline : (bs : List ℕ) (at : ℕ) → at < length bs → (get_or bs at 0 == 10) ≡ true →
    front (take at bs) (lines_of (drop at bs)) ≡ lines_of bs → lines_of bs ≡ take at bs ∷ lines_of (drop (at + 1) bs)
at_newline bs at h newline k =
    sym k ∙ ap (front (take at bs)) (lines_at bs at h ∙ cond-true _ _ _ newline) ∙ front-word (take at bs) [] _
    ∙ ap (λ w. w ∷ lines_of (drop (at + 1) bs)) (append-nil _)

last_line : (bs : List ℕ) → 0 < length bs → front bs [] ≡ bs ∷ []
last_line [] h = absurd (omega arith)
last_line (b ∷ bs) h = front-none b bs

pub at_the_end : (bs : List ℕ) (at : ℕ) → 0 < length bs → length bs ≤ at →
    front (take at bs) (lines_of (drop at bs)) ≡ lines_of bs → lines_of bs ≡ bs ∷ []
at_the_end bs at some few k =
    sym k ∙ rw (take_all at bs few, drop_all at bs few) (last_line bs some)
