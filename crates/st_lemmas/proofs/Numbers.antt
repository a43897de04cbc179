-- What is at a place, and what goes by a number from 1: after a change of one and with one more.
use Rattle.std.proofs.Common.{◌≡◌, ◌≢◌, ℕ, ◌<◌, ◌≤◌, ◌⊎◌, List, [], ◌∷◌, ◌++◌, Some, refl, sym, ap, inl, inr, arith}
use Rattle.std.specs.Prelude.{zero, suc, length, set, slice_get, map, option_map}
use Rattle.st_rules.specs.World.{numbered, with_numbered}
use Rattle.st_lemmas.specs.Lists.{Has}
use Rattle.st_lemmas.proofs.Lookups.{some_is}

pub set_own : {A : Type 0} (xs : List A) (n : ℕ) (x y : A) → slice_get xs n ≡ Some y → slice_get (set xs n x) n ≡ Some x
set_own [] n x y e = cc
set_own (z ∷ xs) zero x y e = refl
set_own (z ∷ xs) (suc n) x y e = set_own xs n x y e

pub set_other : {A : Type 0} (xs : List A) (n m : ℕ) (x : A) → m ≢ n → slice_get (set xs n x) m ≡ slice_get xs m
set_other [] n m x h = refl
set_other (z ∷ xs) zero zero x h = absurd (h refl)
set_other (z ∷ xs) zero (suc m) x h = refl
set_other (z ∷ xs) (suc n) zero x h = refl
set_other (z ∷ xs) (suc n) (suc m) x h = set_other xs n m x (λ e. h (ap suc e))

pub numbered_own : {A : Type 0} (xs : List A) (n : ℕ) (x y : A) → numbered xs n ≡ Some y → numbered (with_numbered n x xs) n ≡ Some x
numbered_own xs zero x y e = cc
numbered_own xs (suc n) x y e = set_own xs n x y e

pub numbered_other : {A : Type 0} (xs : List A) (n m : ℕ) (x : A) → 1 ≤ n → m ≢ n → numbered (with_numbered n x xs) m ≡ numbered xs m
numbered_other xs n zero x l h = refl
numbered_other xs zero (suc m) x l h = absurd (omega arith)
numbered_other xs (suc n) (suc m) x l h = set_other xs n m x (λ e. h (ap suc e))

-- a list by its places from 0, with one more at the end and with one replaced
pub get_more : {A : Type 0} (xs : List A) (y : A) (n : ℕ) (v : A) → slice_get (xs ++ y ∷ []) n ≡ Some v → (slice_get xs n ≡ Some v) ⊎ ((n ≡ length xs) × (v ≡ y))
get_more [] y zero v e = inr (refl, sym (some_is e))
get_more [] y (suc n) v e = cc
get_more (x ∷ xs) y zero v e = inl e
get_more (x ∷ xs) y (suc n) v e = go (get_more xs y n v e)
  where
    go : (slice_get xs n ≡ Some v) ⊎ ((n ≡ length xs) × (v ≡ y)) → (slice_get xs n ≡ Some v) ⊎ ((suc n ≡ suc (length xs)) × (v ≡ y))
    go (inl h) = inl h
    go (inr h) = inr (ap suc h.0, h.1)

pub get_old : {A : Type 0} (xs : List A) (y : A) (n : ℕ) (v : A) → slice_get xs n ≡ Some v → slice_get (xs ++ y ∷ []) n ≡ Some v
get_old [] y n v e = cc
get_old (x ∷ xs) y zero v e = e
get_old (x ∷ xs) y (suc n) v e = get_old xs y n v e

pub get_last : {A : Type 0} (xs : List A) (y : A) → slice_get (xs ++ y ∷ []) (length xs) ≡ Some y
get_last [] y = refl
get_last (x ∷ xs) y = get_last xs y

pub get_below : {A : Type 0} (xs : List A) (n : ℕ) (v : A) → slice_get xs n ≡ Some v → n < length xs
get_below [] n v e = cc
get_below (x ∷ xs) zero v e = omega arith
get_below (x ∷ xs) (suc n) v e = let h = get_below xs n v e in omega arith

pub get_there : {A : Type 0} (xs : List A) (n : ℕ) → n < length xs → (v : A) × (slice_get xs n ≡ Some v)
get_there [] n h = absurd (omega arith)
get_there (x ∷ xs) zero h = (x, refl)
get_there (x ∷ xs) (suc n) h = get_there xs n (omega arith)

-- what is at a place is a member, and each member is at one
pub get_has : {A : Type 0} (xs : List A) (n : ℕ) (v : A) → slice_get xs n ≡ Some v → Has v xs
get_has [] n v e = cc
get_has (x ∷ xs) zero v e = inl (sym (some_is e))
get_has (x ∷ xs) (suc n) v e = inr (get_has xs n v e)

pub has_get : {A : Type 0} (xs : List A) (v : A) → Has v xs → (n : ℕ) × (slice_get xs n ≡ Some v)
has_get [] v h = elim h [ ]
has_get (x ∷ xs) v (inl e) = (zero, ap Some (sym e))
has_get (x ∷ xs) v (inr m) = let h = has_get xs v m in (suc h.0, h.1)

pub set_length : {A : Type 0} (xs : List A) (n : ℕ) (v : A) → length (set xs n v) ≡ length xs
set_length [] n v = refl
set_length (x ∷ xs) zero v = refl
set_length (x ∷ xs) (suc n) v = ap suc (set_length xs n v)

pub length_more : {A : Type 0} (xs : List A) (y : A) → length (xs ++ y ∷ []) ≡ suc (length xs)
length_more [] y = refl
length_more (x ∷ xs) y = ap suc (length_more xs y)

pub get_map : {A B : Type 0} (f : A → B) (xs : List A) (n : ℕ) → slice_get (map f xs) n ≡ option_map f (slice_get xs n)
get_map f [] n = refl
get_map f (x ∷ xs) zero = refl
get_map f (x ∷ xs) (suc n) = get_map f xs n

-- the same by numbers from 1
pub numbered_has : {A : Type 0} (xs : List A) (n : ℕ) (v : A) → numbered xs n ≡ Some v → Has v xs
numbered_has xs zero v e = cc
numbered_has xs (suc n) v e = get_has xs n v e

pub numbered_below : {A : Type 0} (xs : List A) (n : ℕ) (v : A) → numbered xs n ≡ Some v → (1 ≤ n) × (n ≤ length xs)
numbered_below xs zero v e = cc
numbered_below xs (suc n) v e = let h = get_below xs n v e in (omega arith, omega arith)

pub numbered_old : {A : Type 0} (xs : List A) (y : A) (n : ℕ) (v : A) → numbered xs n ≡ Some v → numbered (xs ++ y ∷ []) n ≡ Some v
numbered_old xs y zero v e = cc
numbered_old xs y (suc n) v e = get_old xs y n v e

pub numbered_more : {A : Type 0} (xs : List A) (y : A) (n : ℕ) (v : A) → numbered (xs ++ y ∷ []) n ≡ Some v → (numbered xs n ≡ Some v) ⊎ ((n ≡ suc (length xs)) × (v ≡ y))
numbered_more xs y zero v e = cc
numbered_more xs y (suc n) v e = go (get_more xs y n v e)
  where
    go : (slice_get xs n ≡ Some v) ⊎ ((n ≡ length xs) × (v ≡ y)) → (slice_get xs n ≡ Some v) ⊎ ((suc n ≡ suc (length xs)) × (v ≡ y))
    go (inl h) = inl h
    go (inr h) = inr (ap suc h.0, h.1)
