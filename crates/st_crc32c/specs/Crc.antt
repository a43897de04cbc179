-- CRC-32C: the remainder of some bytes, as a polynomial, divided by Castagnoli's. Bits are in reverse order, the highest power lowest.
use Rattle.std.specs.Prelude.{ℕ, ◌*◌, ◌/◌, ◌%◌, ◌<◌, List, [], ◌∷◌, bit_xor}

abbrev pub POLYNOMIAL : ℕ
POLYNOMIAL = 2197175160

-- the lowest bit is divided out
unfoldable pub bit_out : ℕ → ℕ
bit_out c = bit_xor (c / 2) ((c % 2) * POLYNOMIAL)

-- the eight lowest bits are
unfoldable pub byte_out : ℕ → ℕ
byte_out c = bit_out (bit_out (bit_out (bit_out (bit_out (bit_out (bit_out (bit_out c)))))))

-- the remainder after more bytes
abbrev pub after_bytes : ℕ → List ℕ → ℕ
after_bytes c [] = c
after_bytes c (b ∷ bs) = after_bytes (byte_out (bit_xor c b)) bs

-- the sum: the remainder begins with all bits set, and all of its bits are turned
unfoldable pub crc32c : List ℕ → ℕ
crc32c bytes = bit_xor (after_bytes 4294967295 bytes) 4294967295

abbrev pub are_bytes : List ℕ → Type 0
are_bytes [] = Unit {0}
are_bytes (b ∷ bs) = (b < 256) × are_bytes bs
