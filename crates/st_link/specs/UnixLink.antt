-- The link over one stream of a socket, as its contracts see it.
use Rattle.std.specs.Prelude.{ℕ, Bool}

-- whether it has a stream, and how many of its calls failed, up to 2^64 - 1
pub record UnixLink : Type 0 where
  pub has_stream : Bool
  pub faults : ℕ
