-- The journal in a store's bytes: a gate, and after each open gate a change and the next gate.
use Rattle.std.specs.Prelude.{◌≡◌, ◌≢◌, ℕ, true, List, ◌∷◌, ◌++◌, length, Some, Ok, IsOk}
use Rattle.std.specs.List.{flat_map, list_all}
use Rattle.st_rules.specs.Server.{Stable}
use Rattle.st_journal.specs.Changes.{bytes_of, fits, word32}
use Rattle.st_journal.specs.Stable.{after_changes, apply}
use Rattle.st_journal.specs.declared.change.Change.{Change}

-- what follows a gate: the number of a change's bytes in four bytes, and its bytes
unfoldable pub framed : Change → List ℕ
framed x = word32 (length (bytes_of x)) ++ bytes_of x

-- a change after its open gate
abbrev pub opened : Change → List ℕ
opened x = 1 ∷ framed x

-- changes after their open gates, one after another
abbrev pub all_opened : List Change → List ℕ
all_opened xs = flat_map opened xs

-- The journal of a list of bytes: these changes from 0 on, after open gates, and then a gate that is not open.
pub record IsJournal (bytes : List ℕ) (xs : List Change) : Type 0 where
  pub gate : ℕ
  pub rest : List ℕ
  pub parts : bytes ≡ all_opened xs ++ gate ∷ rest
  pub closed : gate ≢ 1
  pub ranges : list_all fits xs ≡ true

-- The stable part that a list of bytes stands for: what the changes of its journal make of the one at the start, if none of
-- them is refused.
pub record StandsFor (start : Stable) (bytes : List ℕ) (xs : List Change) (state : Stable) : Type 0 where
  pub journal : IsJournal bytes xs
  pub leads : after_changes (Some start) xs ≡ Some state

-- A list of bytes is damaged at an open gate which no change follows that applies, or none that lies there with its next gate.
pub record IsDamaged (start : Stable) (bytes : List ℕ) (at : ℕ) : Type 0 where
  pub changes : List Change
  pub state : Stable
  pub rest : List ℕ
  pub parts : bytes ≡ all_opened changes ++ 1 ∷ rest
  pub place : at ≡ length (all_opened changes)
  pub ranges : list_all fits changes ≡ true
  pub applied : after_changes (Some start) changes ≡ Some state
  pub none : (x : Change) (gate : ℕ) (more : List ℕ) → fits x ≡ true → rest ≡ framed x ++ gate ∷ more → IsOk (apply state x) → ⊥

-- a change that is not refused on the state that the bytes stand for
pub record Applies (start : Stable) (bytes : List ℕ) (x : Change) : Type 0 where
  pub changes : List Change
  pub state : Stable
  pub next : Stable
  pub stands : StandsFor start bytes changes state
  pub applied : apply state x ≡ Ok next
