-- A stop that a script sets.
use Rattle.std.specs.Prelude.{ℕ}

-- the number of the store's call in the next append, from 1 to 4, and what each byte holds then that was not synced
pub record SetStop : Type 0 where
  pub call : ℕ
  pub byte : ℕ
