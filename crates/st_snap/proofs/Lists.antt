-- Lists of numbers and tests.
use Rattle.st_lemmas.proofs.Words
use Words.{◌≡◌, ℕ, ◌<◌, ◌≤◌, Bool, true, false, List, [], ◌∷◌, ◌++◌, Some, None, filter, arith, refl, sym, ap, subst, ◌∙◌, ⊎_elim, inl, inr, true≢false, ◌⊎◌}
use Words.{◌||◌, ◌==◌, if◌then◌else◌, nat_lt, find, AllByRecursion, list_any, cases_Bool, eqb-true, eq-eqb, ltb-true, ltb-false, or_cases, or_right}
use Rattle.std.proofs.lemmas.Option.{same_Some}
use Rattle.st_snap.specs.Volumes.{AreRising}

-- a number that is there has what all have
pub member_all : (P : ℕ → Type 0) (n : ℕ) (xs : List ℕ) → AllByRecursion P xs → list_any (λ x. n == x) xs ≡ true → P n
member_all P n [] a h = absurd (true≢false (sym h))
member_all P n (x ∷ xs) a h = ⊎_elim
    (λ t. let e : n ≡ x = eqb-true n x t in subst P (sym e) a.0)
    (λ t. member_all P n xs a.1 t)
    (or_cases (n == x) (list_any (λ x. n == x) xs) h)

-- if none that is there passes, none does
pub none_passes : (q : ℕ → Bool) (xs : List ℕ) → ((x : ℕ) → list_any (λ y. x == y) xs ≡ true → q x ≡ false) → list_any q xs ≡ false
none_passes q [] h = refl
none_passes q (x ∷ xs) h =
    let here : q x ≡ false = h x (ap (λ b. b || list_any (λ y. x == y) xs) (eq-eqb x x refl)) in
    let rest : list_any q xs ≡ false = none_passes q xs (λ y m. h y (or_right (y == x) (list_any (λ z. y == z) xs) m)) in
    (λ i. here i || rest i)

-- one of those that pass
pub any_member : (q : ℕ → Bool) (xs : List ℕ) → list_any q xs ≡ true → (x : ℕ) × ((list_any (λ y. x == y) xs ≡ true) × (q x ≡ true))
any_member q [] h = absurd (true≢false (sym h))
any_member q (x ∷ xs) h = ⊎_elim
    (λ t. (x, (ap (λ b. b || list_any (λ y. x == y) xs) (eq-eqb x x refl), t)))
    (λ t. let r = any_member q xs t in (r.0, (or_right (r.0 == x) (list_any (λ y. r.0 == y) xs) r.1.0, r.1.1)))
    (or_cases (q x) (list_any q xs) h)

-- one that is there and passes
pub passes : (q : ℕ → Bool) (n : ℕ) (xs : List ℕ) → list_any (λ x. n == x) xs ≡ true → q n ≡ true → list_any q xs ≡ true
passes q n [] h t = absurd (true≢false (sym h))
passes q n (x ∷ xs) h t = ⊎_elim
    (λ m. let e : n ≡ x = eqb-true n x m in ap (λ b. b || list_any q xs) (ap q (sym e) ∙ t))
    (λ m. ⊎_elim (λ b. ap (λ b. b || list_any q xs) b) (λ b. ap (λ b. b || list_any q xs) b ∙ passes q n xs m t) (cases_Bool (q x)))
    (or_cases (n == x) (list_any (λ x. n == x) xs) h)

-- the last of a list
pub any_push : (n y : ℕ) (xs : List ℕ) → list_any (λ x. n == x) (xs ++ y ∷ []) ≡ true → (list_any (λ x. n == x) xs ≡ true) ⊎ (n ≡ y)
any_push n y [] h = ⊎_elim (λ t. inr (eqb-true n y t)) (λ t. absurd (true≢false (sym t))) (or_cases (n == y) false h)
any_push n y (x ∷ xs) h = ⊎_elim
    (λ t. inl (ap (λ b. b || list_any (λ x. n == x) xs) t))
    (λ t. ⊎_elim (λ m. inl (or_right (n == x) (list_any (λ x. n == x) xs) m)) (λ e. inr e) (any_push n y xs t))
    (or_cases (n == x) (list_any (λ x. n == x) (xs ++ y ∷ [])) h)

pub push_keeps : (n y : ℕ) (xs : List ℕ) → list_any (λ x. n == x) xs ≡ true → list_any (λ x. n == x) (xs ++ y ∷ []) ≡ true
push_keeps n y [] h = absurd (true≢false (sym h))
push_keeps n y (x ∷ xs) h = ⊎_elim
    (λ t. ap (λ b. b || list_any (λ x. n == x) (xs ++ y ∷ [])) t)
    (λ t. or_right (n == x) (list_any (λ x. n == x) (xs ++ y ∷ [])) (push_keeps n y xs t))
    (or_cases (n == x) (list_any (λ x. n == x) xs) h)

-- what a filter keeps was there
pub kept_there : (q : ℕ → Bool) (n : ℕ) (xs : List ℕ) → list_any (λ x. n == x) (filter q xs) ≡ true → list_any (λ x. n == x) xs ≡ true
kept_there q n [] h = h
kept_there q n (x ∷ xs) h = ⊎_elim
    (λ t. keep x xs (kept_there q n xs) (filter q xs) (sym (ap (λ b. list_any (λ x. n == x) (if b then x ∷ filter q xs else filter q xs)) t) ∙ h))
    (λ t. or_right (n == x) (list_any (λ x. n == x) xs) (kept_there q n xs (sym (ap (λ b. list_any (λ x. n == x) (if b then x ∷ filter q xs else filter q xs)) t) ∙ h)))
    (cases_Bool (q x))
  where
    keep : (x : ℕ) (xs : List ℕ) → (list_any (λ x. n == x) (filter q xs) ≡ true → list_any (λ x. n == x) xs ≡ true) → (rest : List ℕ) → list_any (λ y. n == y) (x ∷ filter q xs) ≡ true → ((n == x) || list_any (λ x. n == x) xs) ≡ true
    keep x xs ih rest h = ⊎_elim (λ t. ap (λ b. b || list_any (λ x. n == x) xs) t) (λ t. or_right (n == x) (list_any (λ x. n == x) xs) (ih t)) (or_cases (n == x) (list_any (λ x. n == x) (filter q xs)) h)

-- Rising numbers.

pub all_push : (P : ℕ → Type 0) (xs : List ℕ) (y : ℕ) → AllByRecursion P xs → P y → AllByRecursion P (xs ++ y ∷ [])
all_push P [] y a b = (b, tt)
all_push P (x ∷ xs) y a b = (a.0, all_push P xs y a.1 b)

pub all_filter : (P : ℕ → Type 0) (q : ℕ → Bool) (xs : List ℕ) → AllByRecursion P xs → AllByRecursion P (filter q xs)
all_filter P q [] a = tt
all_filter P q (x ∷ xs) a = choose (q x) (all_filter P q xs a.1)
  where
    choose : (b : Bool) → AllByRecursion P (filter q xs) → AllByRecursion P (if b then x ∷ filter q xs else filter q xs)
    choose true r = (a.0, r)
    choose false r = r

pub all_more : {K : Type 0} (P Q : K → Type 0) → ((n : K) → P n → Q n) → (xs : List K) → AllByRecursion P xs → AllByRecursion Q xs
all_more P Q h [] a = tt
all_more P Q h (x ∷ xs) a = (h x a.0, all_more P Q h xs a.1)

pub rising_push : (xs : List ℕ) (y : ℕ) → AreRising xs → AllByRecursion (λ x. x < y) xs → AreRising (xs ++ y ∷ [])
rising_push [] y r a = (tt, tt)
rising_push (x ∷ xs) y r a = (all_push (λ m. x < m) xs y r.0 a.0, rising_push xs y r.1 a.1)

pub rising_filter : (q : ℕ → Bool) (xs : List ℕ) → AreRising xs → AreRising (filter q xs)
rising_filter q [] r = tt
rising_filter q (x ∷ xs) r = choose (q x) (rising_filter q xs r.1)
  where
    choose : (b : Bool) → AreRising (filter q xs) → AreRising (if b then x ∷ filter q xs else filter q xs)
    choose true s = (all_filter (λ m. x < m) q xs r.0, s)
    choose false s = s

-- the first one above a number is the least of those
pub record IsFirstAfter (xs : List ℕ) (t n : ℕ) : Type 0 where
  pub there : list_any (λ x. n == x) xs ≡ true
  pub above : t < n
  pub least : (m : ℕ) → list_any (λ x. m == x) xs ≡ true → t < m → n ≤ m

pub first_some : (xs : List ℕ) (t n : ℕ) → AreRising xs → find (nat_lt t) xs ≡ Some n → IsFirstAfter xs t n
first_some [] t n r e = cc
first_some (x ∷ xs) t n r e = ⊎_elim
    (λ q. let s : x ≡ n = same_Some x n (sym (ap (λ b. if b then Some x else find (nat_lt t) xs) q) ∙ e) in
    record {
      there = ap (λ b. b || list_any (λ x. n == x) xs) (eq-eqb n x (sym s));
      above = let l = ltb-true t x q in omega (arith, l, s);
      least = λ m h l. ⊎_elim (λ z. let y = eqb-true m x z in omega (arith, y, s)) (λ z. let y : x < m = member_all (λ m. x < m) m xs r.0 z in omega (arith, y, s)) (or_cases (m == x) (list_any (λ x. m == x) xs) h);
    })
    (λ q. let f = first_some xs t n r.1 (sym (ap (λ b. if b then Some x else find (nat_lt t) xs) q) ∙ e) in
    record {
      there = or_right (n == x) (list_any (λ x. n == x) xs) f.there;
      above = f.above;
      least = λ m h l. ⊎_elim (λ z. let y = eqb-true m x z in let k = ltb-false t x q in absurd (omega (arith, y, k, l))) (λ z. f.least m z l) (or_cases (m == x) (list_any (λ x. m == x) xs) h);
    })
    (cases_Bool (nat_lt t x))

pub first_none : (xs : List ℕ) (t : ℕ) → find (nat_lt t) xs ≡ None → (m : ℕ) → list_any (λ x. m == x) xs ≡ true → m ≤ t
first_none [] t e m h = absurd (true≢false (sym h))
first_none (x ∷ xs) t e m h = ⊎_elim
    (λ q. let no : Some x ≡ None = sym (ap (λ b. if b then Some x else find (nat_lt t) xs) q) ∙ e in cc)
    (λ q. ⊎_elim (λ z. let y = eqb-true m x z in let k = ltb-false t x q in omega (arith, y, k)) (λ z. first_none xs t (sym (ap (λ b. if b then Some x else find (nat_lt t) xs) q) ∙ e) m z) (or_cases (m == x) (list_any (λ x. m == x) xs) h))
    (cases_Bool (nat_lt t x))
