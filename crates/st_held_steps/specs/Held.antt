-- What steps give, until it may be taken.
use Rattle.std.specs.Prelude.{◌<◌, ◌≤◌, ◌+◌, ◌^◌, ℕ, nat_le, nat_lt, if◌then◌else◌, Bool, true, false, ◌&&◌, List, [], ◌∷◌, ◌++◌, Option, Some, None}
use Rattle.st_held_steps.specs.declared.held.Marked.{Marked}

-- what steps gave and nobody took yet, in order; how many changes were made, and how many of them are kept; and how many may wait to be kept
pub record Held (T : Type 0) : Type 0 where
  pub steps : List (Marked T)
  pub made : ℕ
  pub kept : ℕ
  pub limit : ℕ

-- the changes that are kept were made; their numbers have a bound
pub record IsHeld (made kept limit : ℕ) : Type 0 where
  pub within : kept ≤ made
  pub made_so : made ≤ 2 ^ 62
  pub limit_so : limit < 2 ^ 62

-- Fewer changes wait than may wait.
abbrev pub may_step : {T : Type 0} → Held T → Bool
may_step h = nat_lt h.made (h.kept + h.limit) && nat_lt h.made (2 ^ 62)

-- how many changes were made after a step
abbrev pub made_after : ℕ → Bool → ℕ
made_after made true = made + 1
made_after made false = made

-- A step gives something.
abbrev pub stepped : {T : Type 0} → Held T → T → Bool → Held T
stepped h what changed = record h { steps = h.steps ++ record { what = what; changes = made_after h.made changed } ∷ []; made = made_after h.made changed }

-- This many more changes are kept, at most all that wait.
abbrev pub kept_more : {T : Type 0} → Held T → ℕ → Held T
kept_more h count = record h { kept = if nat_lt (h.kept + count) h.made then h.kept + count else h.made }

-- The change of the first step is kept, and each change before it.
abbrev pub is_ready : {T : Type 0} → ℕ → List (Marked T) → Bool
is_ready kept [] = false
is_ready kept (m ∷ ms) = nat_le m.changes kept

-- What the first step gave, if its change is kept, and each change before it; and the steps that are left.

abbrev pub first_ready : {T : Type 0} → ℕ → List (Marked T) → Option T
first_ready kept [] = None
first_ready kept (m ∷ ms) = if nat_le m.changes kept then Some m.what else None

abbrev pub others : {T : Type 0} → ℕ → List (Marked T) → List (Marked T)
others kept [] = []
others kept (m ∷ ms) = if nat_le m.changes kept then ms else m ∷ ms
