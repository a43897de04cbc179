-- Pages of one byte repeated.
use Rattle.std.proofs.lemmas.Grind.{common_steps}
use Rattle.std.proofs.lemmas.Bool.{and_from, and_parts, eq-eqb, eqb-true}
use Rattle.std.proofs.Common.{◌≡◌, ◌==◌, ℕ, zero, suc, ◌<◌, Bool, true, false, List, [], ◌∷◌, length, refl, ap, subst, arith}
use Rattle.std.specs.Prelude.{slice_get, Some, None, replicate, unwrap_or, if◌then◌else◌}
use Rattle.std.specs.List.{list_all}
use Rattle.std.proofs.lemmas.List.{length-replicate}
use Rattle.st_base.specs.Page.{filled, repeated_of}

pub length_filled : (b : ℕ) → length (filled b) ≡ 4096
unfolding filled
length_filled b = length-replicate 4096 b

at : (n i b : ℕ) → i < n → slice_get (replicate n b) i ≡ Some b
at zero i b l = absurd (omega arith)
at (suc n) zero b l = refl
at (suc n) (suc i) b l = at n i b (omega arith)

-- each byte of a filled page
pub filled_at : (b i : ℕ) → i < length (filled b) → slice_get (filled b) i ≡ Some b
unfolding filled
filled_at b i l = at 4096 i b (let h : i < 4096 = omega (arith, l, length-replicate 4096 b) in h)

all_equal : (n b : ℕ) → list_all (λ x. x == b) (replicate n b) ≡ true
all_equal zero b = refl
all_equal (suc n) b = and_from _ _ (eq-eqb b b refl) (all_equal n b)

repeated_of_replicate : (n b : ℕ) → repeated_of (replicate (suc n) b) ≡ Some b
unfolding repeated_of
repeated_of_replicate n b = rw (all_equal n b) refl

-- a filled page repeats its byte
pub repeated_of_filled : (b : ℕ) → repeated_of (filled b) ≡ Some b
unfolding filled
repeated_of_filled b = repeated_of_replicate 4095 b

equal_replicate : (b : ℕ) (xs : List ℕ) → list_all (λ x. x == b) xs ≡ true → xs ≡ replicate (length xs) b
equal_replicate b [] h = refl
equal_replicate b (x ∷ xs) h =
    let both : ((x == b) ≡ true) × (list_all (λ y. y == b) xs ≡ true) = and_parts _ _ h in
    rw (eqb-true x b both.0) (ap (λ l. b ∷ l) (equal_replicate b xs both.1))

repeats : (c b : ℕ) (xs : List ℕ) (all : Bool) → list_all (λ x. x == c) xs ≡ all → (if all then Some c else None) ≡ Some b →
    c ∷ xs ≡ replicate (length (c ∷ xs)) b
repeats c b xs true q h =
    let same : c ≡ b = ap (λ o. unwrap_or o 0) h in
    rw (← same) (ap (λ l. c ∷ l) (equal_replicate c xs q))
repeats c b xs false q h = absurd (grind (arith, common_steps, h))

-- 4,096 bytes that repeat one are the page that it fills
pub filled_of_repeated : (xs : List ℕ) (b : ℕ) → length xs ≡ 4096 → repeated_of xs ≡ Some b → xs ≡ filled b
unfolding filled repeated_of
filled_of_repeated [] b l h = absurd (omega (arith, l))
filled_of_repeated (c ∷ xs) b l h = subst (λ n. c ∷ xs ≡ replicate n b) l (repeats c b xs (list_all (λ x. x == c) xs) refl h)
