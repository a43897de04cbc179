-- Rising lists without what fails a test.
use Rattle.std.proofs.Common.{◌≡◌, ℕ, ◌<◌, Bool, true, false, cond, List, [], ◌∷◌, filter, sym, ap, ◌∙◌, refl}
use Rattle.std.specs.Prelude.{◌==◌, ◌&&◌, ◌||◌}
use Rattle.std.specs.List.{AllByRecursion}
use Rattle.std.proofs.lemmas.Bool.{eqb-true}
use Rattle.st_tables.proofs.RisingKeys.{IsRising, has}

above_step : (x y : ℕ) (ys : List ℕ) (b : Bool) → x < y → AllByRecursion (λ z. x < z) ys → AllByRecursion (λ z. x < z) (cond b (y ∷ ys) ys)
above_step x y ys true l a = (l, a)
above_step x y ys false l a = a

above_filter : (t : ℕ → Bool) (x : ℕ) (ys : List ℕ) → AllByRecursion (λ z. x < z) ys → AllByRecursion (λ z. x < z) (filter t ys)
above_filter t x [] a = tt
above_filter t x (y ∷ ys) a = above_step x y (filter t ys) (t y) a.0 (above_filter t x ys a.1)

rising_step : (x : ℕ) (ys : List ℕ) (b : Bool) → AllByRecursion (λ z. x < z) ys → IsRising ys → IsRising (cond b (x ∷ ys) ys)
rising_step x ys true a r = (a, r)
rising_step x ys false a r = r

pub rising_filter : (t : ℕ → Bool) (xs : List ℕ) → IsRising xs → IsRising (filter t xs)
rising_filter t [] r = tt
rising_filter t (x ∷ xs) r = rising_step x (filter t xs) (t x) (above_filter t x xs r.0) (rising_filter t xs r.1)

keep_step : (t : ℕ → Bool) (k x : ℕ) (ys : List ℕ) (b : Bool) (rest : Bool) → t x ≡ b → has k ys ≡ t k && rest → has k (cond b (x ∷ ys) ys) ≡ t k && ((x == k) || rest)
keep_step t k x ys true rest e h = ap (λ z. (x == k) || z) h ∙ yes (x == k) rest (λ s. ap t (sym (eqb-true x k s)) ∙ e)
  where
    yes : (a r : Bool) → (a ≡ true → t k ≡ true) → a || (t k && r) ≡ t k && (a || r)
    yes true r f = sym (ap (λ z. z && true) (f refl))
    yes false r f = refl
keep_step t k x ys false rest e h = h ∙ no (x == k) rest (λ s. ap t (sym (eqb-true x k s)) ∙ e)
  where
    no : (a r : Bool) → (a ≡ true → t k ≡ false) → t k && r ≡ t k && (a || r)
    no true r f = ap (λ z. z && r) (f refl) ∙ sym (ap (λ z. z && true) (f refl))
    no false r f = refl

pub has_filter : (t : ℕ → Bool) (k : ℕ) (xs : List ℕ) → has k (filter t xs) ≡ t k && has k xs
has_filter t k [] = none (t k)
  where
    none : (b : Bool) → false ≡ b && false
    none true = refl
    none false = refl
has_filter t k (x ∷ xs) = keep_step t k x (filter t xs) (t x) (has k xs) refl (has_filter t k xs)

pub and_turn : (a b : Bool) → a && b ≡ b && a
and_turn true true = refl
and_turn true false = refl
and_turn false true = refl
and_turn false false = refl
