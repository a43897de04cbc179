-- A number of a type is in the range of its type.
use Rattle.std.proofs.Common.{◌≡◌, ℕ, ◌^◌, ◌<◌, true}
use Rattle.std.specs.Prelude.{nat_lt}
use Rattle.std.proofs.lemmas.Bool.{lt-ltb}

pub in_word16 : (n : ℕ) → n < 2 ^ 16 → nat_lt n (2 ^ 16) ≡ true
in_word16 n h = lt-ltb n (2 ^ 16) h

pub in_word32 : (n : ℕ) → n < 2 ^ 32 → nat_lt n (2 ^ 32) ≡ true
in_word32 n h = lt-ltb n (2 ^ 32) h

pub in_word64 : (n : ℕ) → n < 2 ^ 64 → nat_lt n (2 ^ 64) ≡ true
in_word64 n h = lt-ltb n (2 ^ 64) h
