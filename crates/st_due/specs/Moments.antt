-- Moments of timers: the earliest of several, and whether it has come.
use Rattle.std.specs.Prelude.{ℕ, ◌^◌, Bool, false, if◌then◌else◌, min, nat_le, List, [], ◌∷◌, Option, Some, None}
use Rattle.st_base.specs.declared.ids.Stamp.{Stamp}

-- this moment, or an earlier one
abbrev pub earlier : ℕ → Option ℕ → ℕ
earlier m None = m
earlier m (Some n) = min m n

-- the earliest of these moments
abbrev pub earliest : List ℕ → Option ℕ
earliest [] = None
earliest (m ∷ ms) = Some (earlier m (earliest ms))

-- a moment has come
abbrev pub has_come : Stamp → ℕ → Bool
has_come now m = nat_le m now.0

-- a moment has come, if there is one
abbrev pub is_due : Option ℕ → Stamp → Bool
is_due None now = false
is_due (Some m) now = has_come now m

-- the earlier of two moments, of which either may be missing
abbrev pub sooner : Option ℕ → Option ℕ → Option ℕ
sooner None n = n
sooner (Some m) n = Some (earlier m n)

-- Readings of clocks are at most 2^62: this moment, if a clock may read it.
abbrev pub readable : ℕ → Option ℕ
readable m = if nat_le m (2 ^ 62) then Some m else None

-- a moment, if there is one that a clock may read
abbrev pub readable_by : Option ℕ → Option ℕ
readable_by None = None
readable_by (Some m) = readable m
