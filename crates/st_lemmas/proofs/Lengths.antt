-- Lengths and places of lists that are joined, mapped and changed in one place.
use Rattle.std.proofs.Common.{Bool, List, Some, [], ap, arith, false, if◌then◌else◌, length, map, refl, set, slice_get, suc, sym, true, zero, ℕ, ◌++◌, ◌+◌}
use Rattle.std.proofs.Common.{◌==◌, ◌∙◌, ◌∷◌, ◌≡◌, ◌≤◌}
use Rattle.std.specs.Prelude.{nat_lt}
use Rattle.st_lemmas.proofs.Lookups.{some_is}
use Rattle.st_lemmas.proofs.Numbers.{get_there}
use Rattle.st_rules.specs.Extents.{numbers}
use Rattle.st_rules.specs.Keys.{past, placed, with_key}
use Rattle.st_rules.specs.World.{numbered}

pub length_map : {A B : Type 0} (f : A → B) (xs : List A) → length (map f xs) ≡ length xs
length_map f [] = refl
length_map f (x ∷ xs) = ap suc (length_map f xs)

pub numbers_length : (a n : ℕ) → length (numbers a n) ≡ n
unfolding numbers
numbers_length a zero = refl
numbers_length a (suc n) = ap suc (numbers_length (a + 1) n)

pub with_key_length : (k : ℕ) (xs : List ℕ) → length (with_key k xs) ≤ 1 + length xs
unfolding with_key placed past
with_key_length k [] = omega arith
with_key_length k (x ∷ xs) = go (nat_lt k x) (k == x) (with_key_length k xs)
  where
    go : (b c : Bool) → length (with_key k xs) ≤ 1 + length xs →
        length (if b then k ∷ (x ∷ xs) else if c then x ∷ xs else x ∷ with_key k xs) ≤ 1 + length (x ∷ xs)
    go true c h = omega arith
    go false true h = omega arith
    go false false h = omega (arith, h)

pub get_longer : {A : Type 0} (xs ys : List A) (n : ℕ) (v : A) → slice_get xs n ≡ Some v → slice_get (xs ++ ys) n ≡ Some v
get_longer [] ys n v e = cc
get_longer (x ∷ xs) ys zero v e = e
get_longer (x ∷ xs) ys (suc n) v e = get_longer xs ys n v e

pub set_same : {A : Type 0} (xs : List A) (n : ℕ) (x : A) → slice_get xs n ≡ Some x → set xs n x ≡ xs
set_same [] n x e = refl
set_same (y ∷ xs) zero x e = ap (λ z. z ∷ xs) (sym (some_is e))
set_same (y ∷ xs) (suc n) x e = ap (λ zs. y ∷ zs) (set_same xs n x e)

pub get_past : {A : Type 0} (xs ys : List A) (i : ℕ) → slice_get (xs ++ ys) (length xs + i) ≡ slice_get ys i
get_past [] ys i = ap (slice_get ys) (let z : 0 + i ≡ i = omega arith in z)
get_past (x ∷ xs) ys i = ap (slice_get (x ∷ (xs ++ ys))) (let z : suc (length xs) + i ≡ suc (length xs + i) = omega arith in z) ∙ get_past xs ys i

pub map_last : {A B : Type 0} (f : A → B) (xs : List A) (y : A) → map f (xs ++ y ∷ []) ≡ map f xs ++ f y ∷ []
map_last f [] y = refl
map_last f (x ∷ xs) y = ap (λ v. f x ∷ v) (map_last f xs y)

pub numbered_there : {A : Type 0} (xs : List A) (n : ℕ) → 1 ≤ n → n ≤ length xs → (v : A) × (numbered xs n ≡ Some v)
numbered_there xs zero l h = absurd (omega (arith, l))
numbered_there xs (suc n) l h = get_there xs n (omega (arith, h))

pub nothing_after : {A : Type 0} (xs : List A) → xs ≡ xs ++ []
nothing_after [] = refl
nothing_after (x ∷ xs) = ap (λ z. x ∷ z) (nothing_after xs)
