-- The first bytes of a schedule: the lines whose newlines are among them.
use Rattle.std.specs.Prelude.{ℕ, ◌<◌, ◌==◌, if◌then◌else◌, List, [], ◌∷◌}
use Rattle.st_runs.specs.Replay.{Last, Whole, Stopped}

-- a byte before the first of these lines, if there is one
abbrev pub onto_first : ℕ → List (List ℕ) → List (List ℕ)
onto_first b [] = []
onto_first b (l ∷ ls) = (b ∷ l) ∷ ls

-- the lines whose newlines are among these bytes
unfoldable pub whole_lines : List ℕ → List (List ℕ)
whole_lines [] = []
whole_lines (b ∷ bs) = if b == 10 then [] ∷ whole_lines bs else onto_first b (whole_lines bs)

-- none of the first n lines is refused
abbrev pub Passes : ℕ → Last → Type 0
Passes n (Whole w) = Unit {0}
Passes n (Stopped line f) = n < line
