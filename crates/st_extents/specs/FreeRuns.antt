-- Free places as runs: places one after another, the runs by falling start.
use Rattle.std.specs.Prelude.{ℕ, zero, suc, ◌≡◌, ◌≤◌, ◌<◌, ◌+◌, ◌*◌, ◌==◌, ◌&&◌, ◌||◌, nat_le, nat_lt, Bool, false, not, List, [], ◌∷◌, filter, length, ⊤}
use Rattle.std.specs.List.{list_any}
use Rattle.st_extents.specs.declared.free_runs.FreeRun.{FreeRun}

-- the place is in the run
abbrev pub holds : ℕ → FreeRun → Bool
holds i r = nat_le r.start i && nat_lt i r.end

-- the place is in one of the runs
abbrev pub is_free : List FreeRun → ℕ → Bool
is_free rs i = list_any (holds i) rs

-- for this many places, from one on, whether each is taken
unfoldable pub taken_from : List FreeRun → ℕ → ℕ → List Bool
taken_from rs i zero = []
taken_from rs i (suc n) = not (is_free rs i) ∷ taken_from rs (i + 1) n

-- each run has a place; the first one ends below the number, and each other one below the start of the run before it, so that a place which is in no run lies
-- between two
abbrev pub AreBelow : ℕ → List FreeRun → Type 0
AreBelow n [] = ⊤
AreBelow n (r ∷ rs) = (r.start < r.end) × ((r.end < n) × AreBelow r.start rs)

-- the start of the last run, or the number if there is no run
abbrev pub first_of : ℕ → List FreeRun → ℕ
first_of n [] = n
first_of n (r ∷ rs) = first_of r.start rs

-- the first of these runs, if there is one, begins at the place or below it
abbrev pub BeginsUpTo : ℕ → List FreeRun → Type 0
BeginsUpTo p [] = ⊤
BeginsUpTo p (r ∷ rs) = r.start ≤ p

-- there is a first of these runs, and the place is below its end
abbrev pub ends_above : ℕ → List FreeRun → Bool
ends_above p [] = false
ends_above p (r ∷ rs) = nat_lt p r.end

-- there is a first of these runs, and it ends at the place
abbrev pub ends_at : ℕ → List FreeRun → Bool
ends_at p [] = false
ends_at p (r ∷ rs) = r.end == p

-- the last of these runs begins there
abbrev pub begins_at : ℕ → List FreeRun → Bool
begins_at p rs = first_of 0 rs == p

-- the place lies between the last of the first runs and the first of the others
pub record IsGap (p : ℕ) (above below : List FreeRun) : Type 0 where
  pub behind : (n : ℕ) → p < n → p < first_of n above
  pub begun : BeginsUpTo p below
  pub ended : ends_above p below ≡ false

-- the runs stay in order, and the place is no longer in any of them; all other places stay as they are
abbrev pub IsTakenFrom : ℕ → List FreeRun → List FreeRun → Type 0
IsTakenFrom p old new = (n : ℕ) → AreBelow n old → AreBelow n new × ((j : ℕ) → is_free new j ≡ (is_free old j && not (j == p)))

-- the runs stay in order, and the place is in one; all other places stay as they are
abbrev pub IsGivenTo : ℕ → List FreeRun → List FreeRun → Type 0
IsGivenTo p old new = (n : ℕ) → p + 1 < n → AreBelow n old → AreBelow n new × ((j : ℕ) → is_free new j ≡ (is_free old j || (j == p)))

-- this many places, of which this many are free, as runs in order, in a space for more runs than there can be
pub record IsFreeTable (places free space : ℕ) (rs : List FreeRun) : Type 0 where
  pub below : AreBelow (places + 1) rs
  pub counted : free ≡ length (filter not (taken_from rs 0 places))
  pub room : places + 1 < 2 * space
  pub fits : places < 4294967296
