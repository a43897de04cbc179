-- Bytes that stand for a stable part.
use Rattle.std.specs.Prelude.{ℕ, List}
use Rattle.st_rules.specs.Server.{Stable}
use Rattle.st_journal.specs.Journal.{StandsFor}
use Rattle.st_journal.specs.declared.change.Change.{Change}

-- what some changes make of some stable part
abbrev pub HasState : List ℕ → Type 0
HasState bytes = (start : Stable) × (changes : List Change) × (state : Stable) × StandsFor start bytes changes state
