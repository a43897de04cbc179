-- If one byte changes, the sum does.
use Rattle.std.proofs.Common.{◌≡◌, ◌≢◌, ◌<◌, ◌^◌, ℕ, List, [], ◌∷◌, ◌++◌, refl, sym, ap, ◌∙◌, arith}
use Rattle.std.specs.Int.Bits.{bit_xor, xor_assoc, xor_lt, xor_self, xor_zero_l, xor_comm}
use Rattle.st_crc32c.specs.Crc.{after_bytes, are_bytes, byte_out, crc32c}
use Rattle.st_crc32c.proofs.Bits.{byte_out_once, byte_out_small, xor_same, same_xor}

-- what is added to two numbers can be taken from both
xor_once : (a b n : ℕ) → bit_xor a n ≡ bit_xor b n → a ≡ b
xor_once a b n e = sym (back a) ∙ (ap (λ (x : ℕ). bit_xor x n) e ∙ back b)
  where
    back : (x : ℕ) → bit_xor (bit_xor x n) n ≡ x
    back x = xor_assoc x n n ∙ (ap (bit_xor x) (xor_self n) ∙ (xor_comm x 0 ∙ xor_zero_l x))

word : (b : ℕ) → b < 256 → b < 2 ^ 32
word b h = omega (arith, h)

with_small : (c b : ℕ) → c < 2 ^ 32 → b < 256 → bit_xor c b < 2 ^ 32
with_small c b s h = xor_lt 32 c b s (word b h)

after_small : (bs : List ℕ) (c : ℕ) → c < 2 ^ 32 → are_bytes bs → after_bytes c bs < 2 ^ 32
after_small [] c s h = s
after_small (x ∷ xs) c s h = after_small xs (byte_out (bit_xor c x)) (byte_out_small (bit_xor c x) (with_small c x s h.0)) h.1

-- the same bytes make of two remainders two
after_once : (bs : List ℕ) (a b : ℕ) → are_bytes bs → a < 2 ^ 32 → b < 2 ^ 32 → after_bytes a bs ≡ after_bytes b bs → a ≡ b
after_once [] a b h s t e = e
after_once (x ∷ xs) a b h s t e =
    let one : byte_out (bit_xor a x) ≡ byte_out (bit_xor b x) =
    after_once xs (byte_out (bit_xor a x)) (byte_out (bit_xor b x)) h.1 (byte_out_small (bit_xor a x) (with_small a x s h.0)) (byte_out_small (bit_xor b x) (with_small b x t h.0)) e in
    xor_once a b x (byte_out_once (bit_xor a x) (bit_xor b x) (with_small a x s h.0) (with_small b x t h.0) one)

-- up to the byte that changes
one_byte : (c a b : ℕ) (before behind : List ℕ) → c < 2 ^ 32 → are_bytes before → are_bytes behind → a < 256 → b < 256 → after_bytes c (before ++ a ∷ behind) ≡ after_bytes c (before ++ b ∷ behind) → a ≡ b
one_byte c a b [] behind s h k la lb e =
    let one : byte_out (bit_xor c a) ≡ byte_out (bit_xor c b) =
    after_once behind (byte_out (bit_xor c a)) (byte_out (bit_xor c b)) k (byte_out_small (bit_xor c a) (with_small c a s la)) (byte_out_small (bit_xor c b) (with_small c b s lb)) e in
    let same : bit_xor c a ≡ bit_xor c b = byte_out_once (bit_xor c a) (bit_xor c b) (with_small c a s la) (with_small c b s lb) one in
    xor_once a b c (xor_comm a c ∙ (same ∙ xor_comm c b))
one_byte c a b (x ∷ before) behind s h k la lb e = one_byte (byte_out (bit_xor c x)) a b before behind (byte_out_small (bit_xor c x) (with_small c x s h.0)) h.1 k la lb e

-- a sum is a word
pub sum_small : (bytes : List ℕ) → are_bytes bytes → crc32c bytes < 2 ^ 32
unfolding crc32c
sum_small bytes h = xor_lt 32 (after_bytes 4294967295 bytes) 4294967295 (after_small bytes 4294967295 (omega arith) h) (omega arith)

pub another_sum : (before behind : List ℕ) (a b : ℕ) → are_bytes before → are_bytes behind → a < 256 → b < 256 → a ≢ b → crc32c (before ++ a ∷ behind) ≢ crc32c (before ++ b ∷ behind)
unfolding crc32c
another_sum before behind a b h k la lb ne e =
    ne (one_byte 4294967295 a b before behind (omega arith) h k la lb
    (xor_once (after_bytes 4294967295 (before ++ a ∷ behind)) (after_bytes 4294967295 (before ++ b ∷ behind)) 4294967295 e))
