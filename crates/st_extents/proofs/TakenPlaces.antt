-- Places that are taken and given back, and how many are free.
use Rattle.std.proofs.Common.{◌≡◌, ℕ, zero, suc, ◌+◌, ◌<◌, ◌≤◌, Bool, true, false, List, [], ◌∷◌, length, filter, set, get_or, arith, refl, ap, ⊎_elim}
use Rattle.std.specs.Prelude.{not, replicate}
use Rattle.std.proofs.lemmas.Bool.{cases_Bool}

-- one more place is taken
pub one_taken : (ts : List Bool) (i : ℕ) → i < length ts → get_or ts i true ≡ false → length (filter not (set ts i true)) + 1 ≡ length (filter not ts)
one_taken [] i l h = let no : ⊥ = omega arith in absurd no
one_taken (t ∷ ts) zero l h = rw h (omega arith)
one_taken (t ∷ ts) (suc i) l h =
    let rest = one_taken ts i (omega arith) h in
    ⊎_elim (λ q. rw q rest) (λ q. rw q (omega (arith, rest))) (cases_Bool t)

-- one place is given back
pub one_given : (ts : List Bool) (i : ℕ) → i < length ts → get_or ts i true ≡ true → length (filter not (set ts i false)) ≡ length (filter not ts) + 1
one_given [] i l h = let no : ⊥ = omega arith in absurd no
one_given (t ∷ ts) zero l h = rw h (omega arith)
one_given (t ∷ ts) (suc i) l h =
    let rest = one_given ts i (omega arith) h in
    ⊎_elim (λ q. rw q rest) (λ q. rw q (omega (arith, rest))) (cases_Bool t)

pub all_free : (n : ℕ) → n ≡ length (filter not (replicate n false))
all_free zero = refl
all_free (suc n) = ap suc (all_free n)

pub few_free : (ts : List Bool) → length (filter not ts) ≤ length ts
few_free [] = omega arith
few_free (t ∷ ts) =
    let rest = few_free ts in
    ⊎_elim (λ q. rw q (omega (arith, rest))) (λ q. rw q (omega (arith, rest))) (cases_Bool t)

-- what is written over with itself stays
pub set_same : (ts : List Bool) (i : ℕ) (b d : Bool) → i < length ts → get_or ts i d ≡ b → ts ≡ set ts i b
set_same [] i b d l h = refl
set_same (t ∷ ts) zero b d l h = ap (λ x. x ∷ ts) h
set_same (t ∷ ts) (suc i) b d l h = ap (λ l. t ∷ l) (set_same ts i b d (omega arith) h)
