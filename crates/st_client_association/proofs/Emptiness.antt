-- Whether anything is in a list.
use Rattle.st_lemmas.proofs.Words
use Words.{◌≡◌, ℕ, List, [], ◌∷◌, if◌then◌else◌, length, map, refl, sym, arith, ◌==◌, Bool, true, false, is_some, nat_lt, slice_get, lt-ltb, DemandedFile}
use Words.Client.{is_any}
use Words.ClientLocks.{ino_of_demand}
use Words.Keys.{past, placed, rising, with_key}

pub any_is : {A : Type 0} (xs : List A) → nat_lt 0 (length xs) ≡ is_any xs
any_is [] = refl
any_is (x ∷ xs) = lt-ltb 0 (length (x ∷ xs)) (omega arith)

-- if there is a first one
pub any_first : {A : Type 0} (xs : List A) → is_some (slice_get xs 0) ≡ is_any xs
any_first [] = refl
any_first (x ∷ xs) = refl

-- a key is in the list that it is put into
any_placed : (k : ℕ) (xs : List ℕ) → is_any (with_key k xs) ≡ true
unfolding with_key placed past
any_placed k [] = refl
any_placed k (x ∷ xs) = by (nat_lt k x) (k == x)
  where
    by : (a b : Bool) → is_any (if a then k ∷ (x ∷ xs) else (if b then x ∷ xs else x ∷ with_key k xs)) ≡ true
    by true b = refl
    by false true = refl
    by false false = refl

-- a file is demanded if there is a demand
pub any_demanded : (ds : List DemandedFile) → is_any ds ≡ is_any (rising (map ino_of_demand ds))
unfolding rising
any_demanded [] = refl
any_demanded (d ∷ ds) = sym (any_placed d.ino (rising (map ino_of_demand ds)))
