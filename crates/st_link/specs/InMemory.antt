-- The source and the sink in memory, as their contracts see them.
use Rattle.std.specs.Prelude.{ℕ, ◌+◌, ◌-◌, ◌^◌, min, List}

-- the bytes that are left or written, the calls made so far, the numbers of the calls that fail, and the faults so far
pub record InMemory : Type 0 where
  pub bytes : List ℕ
  pub calls : ℕ
  pub failing : List ℕ
  pub faults : ℕ

-- a count raised by one, up to the end of its range: the number of the next call, and the faults after a failure
abbrev pub raised : ℕ → ℕ
raised n = min (n + 1) (2 ^ 64 - 1)

-- the link in memory: the bytes that are left and those that are written, the names that it was attached at, and the calls
pub record MemoryLink : Type 0 where
  pub left : List ℕ
  pub written : List ℕ
  pub names : List (List ℕ)
  pub calls : ℕ
  pub failing : List ℕ
  pub faults : ℕ
