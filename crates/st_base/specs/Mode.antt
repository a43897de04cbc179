-- Lock modes.
use Rattle.std.specs.Prelude.{ℕ, Bool, true, false, nat_le}
use Rattle.st_base.specs.declared.mode.Mode.{Mode}
use Rattle.st_base.specs.declared.mode.Mode.TheVariants.{None, S, X}

-- a mode's number, on the wire and in a report: none is below shared and shared is below exclusive
abbrev pub number_of : Mode → ℕ
number_of None = 0
number_of S = 1
number_of X = 2

-- a lock of the first mode serves for the second
abbrev pub covers : Mode → Mode → Bool
covers held wanted = nat_le (number_of wanted) (number_of held)

-- two clients can't hold these at once: shared is compatible with shared, and every other pair of shared and
-- exclusive conflicts
abbrev pub conflicts : Mode → Mode → Bool
conflicts S X = true
conflicts X S = true
conflicts X X = true
conflicts m n = false
