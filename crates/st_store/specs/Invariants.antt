-- How the store in memory keeps what it holds, and what follows for a crash.
use Rattle.std.specs.Prelude.{◌≡◌, ◌≤◌, ◌+◌, ℕ, List, [], ◌∷◌, ⊤}
use Rattle.st_store.specs.InMemory.{Contents, held}
use Rattle.st_store.specs.declared.history.Span.{Span}

-- the ranges lie in a store of this size
abbrev pub AreInside : ℕ → List Span → Type 0
AreInside size [] = ⊤
AreInside size (s ∷ spans) = (s.at + s.count ≤ size) × AreInside size spans

-- the bytes and the unsynced ranges are those after the recorded calls
pub record IsKept (s : Contents) (bytes : List ℕ) (loose : List Span) : Type 0 where
  pub seen : bytes ≡ (held s).seen
  pub ranges : loose ≡ (held s).loose
  pub inside : AreInside s.size loose
