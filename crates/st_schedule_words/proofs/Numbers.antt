-- Numbers as they are written and as they are read.
use Rattle.std.proofs.Common.{◌≡◌, ℕ, zero, suc, ◌^◌, ◌<◌, ◌≤◌, true, false, List, [], ◌∷◌, get_or, refl, rules, arith}
use Rattle.std.specs.Prelude.{Some}
use Rattle.std.specs.Fmt.{decimal}
use Rattle.std.specs.List.{list_all}
use Rattle.std.proofs.lemmas.Bool.Decides.{nat_tests}
use Rattle.std.proofs.lemmas.Str.Parse.{IsNumeralModel, numerals_by_fold}
use Rattle.std.proofs.lemmas.Fmt.{digits_decimal, digits_value-decimal, decimal_nonempty, first_decimal, decimal_digit}
use Rattle.st_schedule_words.specs.Words.{is_digit, is_number, value_from, value, has_leading_zero, in_range, plain}

pub own : IsNumeralModel (λ ds. list_all is_digit ds ≡ true) (value_from 0)
own = numerals_by_fold _ (search rules) value_from (search rules)

-- a word that begins with a byte other than a zero, or has no other byte, has no leading zero
no_zero : (w : List ℕ) → 48 < get_or w 0 0 → has_leading_zero w ≡ false
no_zero [] h = refl
no_zero (b ∷ bs) h = grind (arith, nat_tests)

decimal_zero : (n : ℕ) → n < 2 ^ 64 → has_leading_zero (decimal n) ≡ false
decimal_zero zero h = let e : decimal 0 ≡ 48 ∷ [] = decimal_digit 0 (omega arith) in rw e refl
decimal_zero (suc n) h = no_zero (decimal (suc n)) (first_decimal (suc n) (omega arith) h)

pub decimal_is_number : (n : ℕ) → n < 2 ^ 64 → is_number (decimal n) ≡ true
decimal_is_number n h =
    let some = decimal_nonempty n h in
    let digits = digits_decimal own n h in
    grind (arith, nat_tests)

within : (least most n : ℕ) (w : List ℕ) → has_leading_zero w ≡ false → value w ≡ n → least ≤ n → n ≤ most → in_range least most w ≡ Some n
within least most n w nz e low high = rw (nz, e) (grind (arith, nat_tests))

pub decimal_in_range : (least most n : ℕ) → n < 2 ^ 64 → least ≤ n → n ≤ most → in_range least most (decimal n) ≡ Some n
decimal_in_range least most n h low high = within least most n (decimal n) (decimal_zero n h) (digits_value-decimal own n h) low high

pub decimal_plain : (least most n : ℕ) → n < 2 ^ 64 → least ≤ n → n ≤ most → plain least most (decimal n) ≡ Some n
decimal_plain least most n h low high = rw (decimal_is_number n h) (decimal_in_range least most n h low high)
