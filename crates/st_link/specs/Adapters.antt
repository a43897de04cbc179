-- A reader or a writer inside an adapter, as contracts see it.
use Rattle.std.specs.Prelude.{ℕ}

-- the reader or writer, and how many of its calls failed, up to 2^64 - 1
pub record Adapted (S : Type 0) : Type 0 where
  pub stream : S
  pub faults : ℕ
