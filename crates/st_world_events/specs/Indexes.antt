-- Places of numbers from 1.
use Rattle.std.specs.Prelude.{◌≡◌, ℕ, List, slice_get, zero, suc, nat_lt, if◌then◌else◌, Option, Some, None}

-- the place of a number from 1 among this many, from 0
abbrev pub index_at : ℕ → ℕ → Option ℕ
index_at zero len = None
index_at (suc n) len = if nat_lt n len then Some n else None

-- what holds of what is at a place, if something is
abbrev pub AtPlace : {A : Type 0} → List A → ℕ → (A → Type 0) → Type 0
AtPlace {A} xs i P = (x : A) → slice_get xs i ≡ Some x → P x
