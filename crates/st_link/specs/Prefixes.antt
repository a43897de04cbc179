-- What a call over a whole text did if it stopped before the end. Nothing is promised about bytes that aren't known.
use Rattle.std.specs.Prelude.{ℕ, ◌<◌, List, length, take}
use Rattle.std.specs.declared.option.Option.{Option}
use Rattle.std.specs.Io.KnownBytes.{Appends, Consumes}

-- the known bytes grew by the first n of these, for some n
abbrev pub AppendsPrefix : Option (List ℕ) → Option (List ℕ) → List ℕ → Type 0
AppendsPrefix before after bytes = (n : ℕ) × Appends before after (take n bytes)

-- the known bytes lost the first of them, maybe none, and kept the rest
abbrev pub LosesFront : Option (List ℕ) → Option (List ℕ) → Type 0
LosesFront before after = (front : List ℕ) × Consumes before after front

-- the known bytes lost the first of them, at least one, and kept the rest
abbrev pub LosesSome : Option (List ℕ) → Option (List ℕ) → Type 0
LosesSome before after = (front : List ℕ) × (0 < length front) × Consumes before after front
