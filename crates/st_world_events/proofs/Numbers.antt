-- What goes by a number, and where it is.
use Rattle.std.proofs.Common.{◌≡◌, ℕ, zero, suc, ◌<◌, Bool, true, false, if◌then◌else◌, List, length, refl, ap, ◌∙◌, arith}
use Rattle.std.specs.Prelude.{nat_lt, slice_get, Option, Some, None}
use Rattle.std.proofs.lemmas.Bool.{ltb-true, ltb-false}
use Rattle.std.proofs.lemmas.Option.{slice_get_past}
use Rattle.st_rules.specs.World.{numbered}
use Rattle.st_world_events.specs.Indexes.{index_at}

none_by : {A : Type 0} (xs : List A) (n : ℕ) (b : Bool) → nat_lt n (length xs) ≡ b → None ≡ (if b then Some n else None) → slice_get xs n ≡ None
none_by xs n true q h = absurd (cc)
none_by xs n false q h = slice_get_past xs n (ltb-false n (length xs) q)

-- if there is no place, nothing goes by the number
pub index_none : {A : Type 0} (xs : List A) (n : ℕ) → None ≡ index_at n (length xs) → numbered xs n ≡ None
index_none xs zero h = refl
index_none xs (suc n) h = none_by xs n (nat_lt n (length xs)) refl h

-- a place: what goes by the number is there
pub record IsThere {A : Type 0} (xs : List A) (n i : ℕ) : Type 0 where
  pub number : n ≡ suc i
  pub low : i < length xs

there_by : {A : Type 0} (xs : List A) (n i : ℕ) (b : Bool) → nat_lt n (length xs) ≡ b → Some i ≡ (if b then Some n else None) → IsThere xs (suc n) i
there_by xs n i true q h = let e : n ≡ i = cc in record { number = ap suc e; low = omega (arith, e, ltb-true n (length xs) q) }
there_by xs n i false q h = absurd (cc)

-- a place
pub index_some : {A : Type 0} (xs : List A) (n i : ℕ) → Some i ≡ index_at n (length xs) → IsThere xs n i
index_some xs zero i h = absurd (cc)
index_some xs (suc n) i h = there_by xs n i (nat_lt n (length xs)) refl h

-- what is there goes by the number
pub numbered_there : {A : Type 0} (xs : List A) (n i : ℕ) (o : Option A) → IsThere xs n i → slice_get xs i ≡ o → numbered xs n ≡ o
numbered_there xs n i o h e = ap (numbered xs) h.number ∙ e
