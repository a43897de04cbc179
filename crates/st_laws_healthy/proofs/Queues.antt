-- Releases that wait to be sent: more go last, and the first one is sent.
use Rattle.st_lemmas.proofs.Words
use Words.{◌≡◌, ℕ, ◌+◌, ◌≤◌, List, [], ◌∷◌, ◌++◌, Some, refl, arith, length, slice_get, suc, zero, Release}

-- the second queue is the first one with others after it
pub data Longer (xs : List Release) : List Release → Type 0 where
  Same : Longer xs xs
  More : (ys : List Release) (r : Release) → Longer xs ys → Longer xs (ys ++ r ∷ [])

pub longer_then : (xs ys zs : List Release) → Longer xs ys → Longer ys zs → Longer xs zs
longer_then xs ys zs l Same = l
longer_then xs ys zs l (More vs r m) = More vs r (longer_then xs ys vs l m)

in_front : (xs : List Release) (r : Release) (n : ℕ) (v : Release) → slice_get xs n ≡ Some v → slice_get (xs ++ r ∷ []) n ≡ Some v
in_front [] r n v e = cc
in_front (x ∷ xs) r zero v e = e
in_front (x ∷ xs) r (suc n) v e = in_front xs r n v e

-- a release keeps its place
pub keeps_place : (xs ys : List Release) → Longer xs ys → (n : ℕ) (v : Release) → slice_get xs n ≡ Some v → slice_get ys n ≡ Some v
keeps_place xs _ Same n v e = e
keeps_place xs _ (More ys r l) n v e = in_front ys r n v (keeps_place xs ys l n v e)

-- what goes last has a place
pub last_place : (xs : List Release) (v : Release) → (n : ℕ) × (slice_get (xs ++ v ∷ []) n ≡ Some v)
last_place [] v = (0, refl)
last_place (x ∷ xs) v = let z = last_place xs v in (suc z.0, z.1)

-- each place is below the number of releases
pub place_below : (xs : List Release) (n : ℕ) (v : Release) → slice_get xs n ≡ Some v → n + 1 ≤ length xs
place_below [] n v e = cc
place_below (x ∷ xs) zero v e = omega arith
place_below (x ∷ xs) (suc n) v e = let z = place_below xs n v e in omega (arith, z)
