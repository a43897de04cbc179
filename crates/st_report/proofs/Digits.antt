-- The digits of a number of two to five digits.
use Rattle.std.proofs.Common.{◌≡◌, ℕ, ◌+◌, ◌/◌, ◌%◌, ◌<◌, ◌≤◌, List, [], ◌∷◌, ◌++◌, ◌∙◌, ap, arith}
use Rattle.std.specs.Fmt.{decimal}
use Rattle.std.proofs.lemmas.Fmt.{decimal_digit, decimal_step}

-- one digit more
decimal_with_one_more : (n m : ℕ) (ds : List ℕ) → 10 ≤ n → n < 100000 → n / 10 ≡ m → decimal m ≡ ds → decimal n ≡ ds ++ (48 + n % 10) ∷ []
decimal_with_one_more n m ds many few tens front = decimal_step n many (omega arith) ∙ ap (λ t. decimal t ++ (48 + n % 10) ∷ []) tens ∙
    ap (λ t. t ++ (48 + n % 10) ∷ []) front

one : (n : ℕ) → n < 10 → decimal n ≡ (48 + n % 10) ∷ []
one n few = let same : n ≡ n % 10 = omega arith in decimal_digit n few ∙ ap (λ d. (48 + d) ∷ []) same

pub two : (n : ℕ) → 10 ≤ n → n < 100 → decimal n ≡ (48 + n / 10 % 10) ∷ (48 + n % 10) ∷ []
two n many few = decimal_with_one_more n (n / 10) _ many (omega arith) (omega arith) (one (n / 10) (omega arith))

pub three : (n : ℕ) → 100 ≤ n → n < 1000 → decimal n ≡ (48 + n / 100 % 10) ∷ (48 + n / 10 % 10) ∷ (48 + n % 10) ∷ []
three n many few =
    let a : n / 10 / 10 ≡ n / 100 = omega arith in
    decimal_with_one_more n (n / 10) _ (omega arith) (omega arith) (omega arith)
    (two (n / 10) (omega arith) (omega arith) ∙ ap (λ t. (48 + t % 10) ∷ (48 + n / 10 % 10) ∷ []) a)

pub four : (n : ℕ) → 1000 ≤ n → n < 10000 → decimal n ≡ (48 + n / 1000 % 10) ∷ (48 + n / 100 % 10) ∷ (48 + n / 10 % 10) ∷ (48 + n % 10) ∷ []
four n many few =
    let a : n / 10 / 10 ≡ n / 100 = omega arith in
    let b : n / 10 / 100 ≡ n / 1000 = omega arith in
    decimal_with_one_more n (n / 10) _ (omega arith) (omega arith) (omega arith)
    (three (n / 10) (omega arith) (omega arith) ∙ (λ i. (48 + b i % 10) ∷ (48 + a i % 10) ∷ (48 + n / 10 % 10) ∷ []))

pub five : (n : ℕ) → 10000 ≤ n → n < 100000 →
    decimal n ≡ (48 + n / 10000 % 10) ∷ (48 + n / 1000 % 10) ∷ (48 + n / 100 % 10) ∷ (48 + n / 10 % 10) ∷ (48 + n % 10) ∷ []
five n many few =
    let a : n / 10 / 10 ≡ n / 100 = omega arith in
    let b : n / 10 / 100 ≡ n / 1000 = omega arith in
    let c : n / 10 / 1000 ≡ n / 10000 = omega arith in
    decimal_with_one_more n (n / 10) _ (omega arith) (omega arith) (omega arith)
    (four (n / 10) (omega arith) (omega arith) ∙ (λ i. (48 + c i % 10) ∷ (48 + b i % 10) ∷ (48 + a i % 10) ∷ (48 + n / 10 % 10) ∷ []))
