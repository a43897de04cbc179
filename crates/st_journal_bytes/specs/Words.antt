-- Numbers as bytes, their highest byte first.
use Rattle.std.specs.Prelude.{ℕ, List}
use Rattle.std.specs.Int.{w16, w64, to_be_bytes}

unfoldable pub word16 : ℕ → List ℕ
word16 n = to_be_bytes w16 n

unfoldable pub word64 : ℕ → List ℕ
word64 n = to_be_bytes w64 n
