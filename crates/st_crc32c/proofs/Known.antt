-- Sums that are known from elsewhere.
use Rattle.std.proofs.Common.{◌≡◌, ℕ, [], ◌∷◌, refl, replicate}
use Rattle.st_crc32c.specs.Crc.{bit_out, byte_out, crc32c}

pub digits : crc32c (49 ∷ 50 ∷ 51 ∷ 52 ∷ 53 ∷ 54 ∷ 55 ∷ 56 ∷ 57 ∷ []) ≡ 3808858755
unfolding crc32c byte_out bit_out
digits = refl

pub zeros : crc32c (replicate 32 0) ≡ 2324772522
unfolding crc32c byte_out bit_out
zeros = refl

pub ones : crc32c (replicate 32 255) ≡ 1655221059
unfolding crc32c byte_out bit_out
ones = refl
