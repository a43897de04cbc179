-- Dividing a bit out is linear, and different numbers leave different remainders.
use Rattle.std.proofs.Common.{◌≡◌, ◌≢◌, ◌<◌, ◌≤◌, ◌+◌, ◌*◌, ◌/◌, ◌%◌, ◌^◌, ◌⊎◌, ℕ, zero, suc, refl, sym, ap, ◌∙◌, subst, inl, inr, arith}
use Rattle.std.specs.Int.Bits.{bit_xor, xor_assoc, xor_comm, xor_lt, xor_mod, xor_self, xor_shr, xor_zero_l, xor_zero_r}
use Rattle.st_crc32c.specs.Crc.{POLYNOMIAL, bit_out, byte_out}

-- a product with what falls out fits a word
pub small : (c : ℕ) → (c % 2) * POLYNOMIAL < 2 ^ 32
small c = omega arith

-- the four terms of two sums in another order
pub xor_four : (a b u v : ℕ) → bit_xor (bit_xor a b) (bit_xor u v) ≡ bit_xor (bit_xor a u) (bit_xor b v)
xor_four a b u v =
    xor_assoc a b (bit_xor u v) ∙
    (ap (bit_xor a) (sym (xor_assoc b u v) ∙ (ap (λ (n : ℕ). bit_xor n v) (xor_comm b u) ∙ xor_assoc u b v)) ∙ sym (xor_assoc a u (bit_xor b v)))

-- a bit is 0 or 1
bit_is : (n : ℕ) → n < 2 → (n ≡ 0) ⊎ (n ≡ 1)
bit_is zero h = inl refl
bit_is (suc zero) h = inr refl
bit_is (suc (suc n)) h = absurd (omega (arith, h))

times_by : (x y : ℕ) → (x ≡ 0) ⊎ (x ≡ 1) → (y ≡ 0) ⊎ (y ≡ 1) → bit_xor x y * POLYNOMIAL ≡ bit_xor (x * POLYNOMIAL) (y * POLYNOMIAL)
times_by x y (inl e) (inl g) = subst (λ (n : ℕ). bit_xor n y * POLYNOMIAL ≡ bit_xor (n * POLYNOMIAL) (y * POLYNOMIAL)) (sym e) (subst (λ (m : ℕ). bit_xor 0 m * POLYNOMIAL ≡ bit_xor (0 * POLYNOMIAL) (m * POLYNOMIAL)) (sym g) refl)
times_by x y (inl e) (inr g) = subst (λ (n : ℕ). bit_xor n y * POLYNOMIAL ≡ bit_xor (n * POLYNOMIAL) (y * POLYNOMIAL)) (sym e) (subst (λ (m : ℕ). bit_xor 0 m * POLYNOMIAL ≡ bit_xor (0 * POLYNOMIAL) (m * POLYNOMIAL)) (sym g) refl)
times_by x y (inr e) (inl g) = subst (λ (n : ℕ). bit_xor n y * POLYNOMIAL ≡ bit_xor (n * POLYNOMIAL) (y * POLYNOMIAL)) (sym e) (subst (λ (m : ℕ). bit_xor 1 m * POLYNOMIAL ≡ bit_xor (1 * POLYNOMIAL) (m * POLYNOMIAL)) (sym g) refl)
times_by x y (inr e) (inr g) = subst (λ (n : ℕ). bit_xor n y * POLYNOMIAL ≡ bit_xor (n * POLYNOMIAL) (y * POLYNOMIAL)) (sym e) (subst (λ (m : ℕ). bit_xor 1 m * POLYNOMIAL ≡ bit_xor (1 * POLYNOMIAL) (m * POLYNOMIAL)) (sym g) refl)

low : (a : ℕ) → a % 2 < 2
low a = omega arith

pub bit_out-xor : (a b : ℕ) → bit_out (bit_xor a b) ≡ bit_xor (bit_out a) (bit_out b)
unfolding bit_out
bit_out-xor a b =
    let high : bit_xor a b / 2 ≡ bit_xor (a / 2) (b / 2) = xor_shr a b 1 in
    let odd : bit_xor a b % 2 ≡ bit_xor (a % 2) (b % 2) = xor_mod a b 1 in
    let times : bit_xor (a % 2) (b % 2) * POLYNOMIAL ≡ bit_xor ((a % 2) * POLYNOMIAL) ((b % 2) * POLYNOMIAL) = times_by (a % 2) (b % 2) (bit_is (a % 2) (low a)) (bit_is (b % 2) (low b)) in
    ap (λ (n : ℕ). bit_xor n ((bit_xor a b % 2) * POLYNOMIAL)) high ∙
    (ap (λ (n : ℕ). bit_xor (bit_xor (a / 2) (b / 2)) (n * POLYNOMIAL)) odd ∙
    (ap (bit_xor (bit_xor (a / 2) (b / 2))) times ∙ xor_four (a / 2) (b / 2) ((a % 2) * POLYNOMIAL) ((b % 2) * POLYNOMIAL)))

-- two numbers whose difference is 0 are equal
pub xor_same : (a b : ℕ) → bit_xor a b ≡ 0 → a ≡ b
xor_same a b e =
    sym (xor_zero_r a) ∙ (ap (bit_xor a) (sym (xor_self b)) ∙ (sym (xor_assoc a b b) ∙ (ap (λ (n : ℕ). bit_xor n b) e ∙ xor_zero_l b)))

pub same_xor : (a b : ℕ) → a ≡ b → bit_xor a b ≡ 0
same_xor a b e = ap (λ (n : ℕ). bit_xor n b) e ∙ xor_self b

-- what is 0 once its lowest bit is divided out was 0
nothing_by : (c : ℕ) → c < 2 ^ 32 → (c % 2 ≡ 0) ⊎ (c % 2 ≡ 1) → bit_xor (c / 2) ((c % 2) * POLYNOMIAL) ≡ 0 → c ≡ 0
nothing_by c small_c (inl even) e =
    let half : c / 2 ≡ (c % 2) * POLYNOMIAL = xor_same (c / 2) ((c % 2) * POLYNOMIAL) e in
    omega (arith, even, half)
nothing_by c small_c (inr odd) e =
    let half : c / 2 ≡ (c % 2) * POLYNOMIAL = xor_same (c / 2) ((c % 2) * POLYNOMIAL) e in
    let whole : c / 2 ≡ 1 * POLYNOMIAL = half ∙ ap (λ (n : ℕ). n * POLYNOMIAL) odd in
    absurd (omega (arith, whole, small_c))

nothing : (c : ℕ) → c < 2 ^ 32 → bit_out c ≡ 0 → c ≡ 0
unfolding bit_out
nothing c small_c e = nothing_by c small_c (bit_is (c % 2) (low c)) e

pub bit_out_small : (c : ℕ) → c < 2 ^ 32 → bit_out c < 2 ^ 32
unfolding bit_out
bit_out_small c small_c = xor_lt 32 (c / 2) ((c % 2) * POLYNOMIAL) (omega (arith, small_c)) (small c)

-- different remainders stay different
pub bit_out_once : (a b : ℕ) → a < 2 ^ 32 → b < 2 ^ 32 → bit_out a ≡ bit_out b → a ≡ b
bit_out_once a b small_a small_b e =
    xor_same a b (nothing (bit_xor a b) (xor_lt 32 a b small_a small_b) (bit_out-xor a b ∙ same_xor (bit_out a) (bit_out b) e))

-- after this many bits the same holds

outs : ℕ → ℕ → ℕ
outs zero c = c
outs (suc n) c = outs n (bit_out c)

outs_small : (n c : ℕ) → c < 2 ^ 32 → outs n c < 2 ^ 32
unfolding outs
outs_small zero c s = s
outs_small (suc n) c s = outs_small n (bit_out c) (bit_out_small c s)

outs_once : (n a b : ℕ) → a < 2 ^ 32 → b < 2 ^ 32 → outs n a ≡ outs n b → a ≡ b
unfolding outs
outs_once zero a b s t e = e
outs_once (suc n) a b s t e = bit_out_once a b s t (outs_once n (bit_out a) (bit_out b) (bit_out_small a s) (bit_out_small b t) e)

pub byte_out_small : (c : ℕ) → c < 2 ^ 32 → byte_out c < 2 ^ 32
unfolding byte_out outs
byte_out_small c s = outs_small 8 c s

pub byte_out_once : (a b : ℕ) → a < 2 ^ 32 → b < 2 ^ 32 → byte_out a ≡ byte_out b → a ≡ b
unfolding byte_out outs
byte_out_once a b s t e = outs_once 8 a b s t e
