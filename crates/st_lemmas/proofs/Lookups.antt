-- Look-ups by a number, after a filter and after one more row; tests of whole lists.
use Rattle.std.proofs.Common.{◌≡◌, ◌≢◌, ℕ, ◌⊎◌, Bool, true, false, not, ◌||◌, List, [], ◌∷◌, ◌++◌, ◌==◌, Option, Some, None, refl, sym, ap, ◌∙◌, inl, inr, if◌then◌else◌}
use Rattle.std.specs.Prelude.{find, filter}
use Rattle.std.specs.List.{list_any}
use Rattle.std.proofs.lemmas.Bool.{eqb-true, eq-eqb, ne_eqb}
use Rattle.st_lemmas.proofs.Tables.{same_or_not, find_last, find_before}

pub if_true : {A : Type 0} (b : Bool) (x y : A) → b ≡ true → (if b then x else y) ≡ x
if_true b x y e = ap (λ (v : Bool). if v then x else y) e

pub if_false : {A : Type 0} (b : Bool) (x y : A) → b ≡ false → (if b then x else y) ≡ y
if_false b x y e = ap (λ (v : Bool). if v then x else y) e

pub if_ap : {A B : Type 0} (f : A → B) (b : Bool) (x y : A) → f (if b then x else y) ≡ (if b then f x else f y)
if_ap f true x y = refl
if_ap f false x y = refl

-- the first row of a number, without the rows of a number
pub find_without : {A : Type 0} (ino : A → ℕ) (i d : ℕ) (rows : List A) →
    find (λ r. ino r == d) (filter (λ r. not (ino r == i)) rows) ≡ (if d == i then None else find (λ r. ino r == d) rows)
find_without {A} ino i d [] = go (d == i)
  where
    go : (b : Bool) → ◌≡◌ {A = Option A} None (if b then None else None)
    go true = refl
    go false = refl
find_without {A} ino i d (x ∷ xs) =
    go (ino x == i) (ino x == d) (d == i) refl (λ e. ap (λ n. n == d) (eqb-true _ _ e) ∙ flip i d) (λ e c. ne_eqb _ _ (λ q. not_both (ino x == i) e (eq-eqb _ _ (q ∙ eqb-true _ _ c)))) (find_without ino i d xs)
  where
    not_both : (b : Bool) → b ≡ false → b ≡ true → ⊥
    not_both true e f = cc
    not_both false e f = cc

    flip : (m n : ℕ) → (m == n) ≡ (n == m)
    flip m n = go2 (same_or_not m n)
      where
        go2 : (m ≡ n) ⊎ (m ≢ n) → (m == n) ≡ (n == m)
        go2 (inl e) = ap (λ x. x == n) e ∙ ap (λ x. n == x) (sym e)
        go2 (inr ne) = ne_eqb _ _ ne ∙ sym (ne_eqb _ _ (λ q. ne (sym q)))

    go : (a b c : Bool) → (ino x == d) ≡ b → (a ≡ true → b ≡ c) → (a ≡ false → c ≡ true → b ≡ false) →
        find (λ r. ino r == d) (filter (λ r. not (ino r == i)) xs) ≡ (if c then None else find (λ r. ino r == d) xs) →
        find (λ r. ino r == d) (if not a then x ∷ filter (λ r. not (ino r == i)) xs else filter (λ r. not (ino r == i)) xs) ≡ (if c then None else (if b then Some x else find (λ r. ino r == d) xs))
    go true true true e h k q = q
    go true true false e h k q = cc (h refl)
    go true false true e h k q = q
    go true false false e h k q = q
    go false true true e h k q = cc (k refl refl)
    go false true false e h k q = if_true _ _ _ e
    go false false true e h k q = if_false _ _ _ e ∙ q
    go false false false e h k q = if_false _ _ _ e ∙ q

pub some_is : {A : Type 0} {u w : A} → Some u ≡ Some w → u ≡ w
some_is e = cc

-- what a look-up finds has the number
pub found_ino : {A : Type 0} (ino : A → ℕ) (i : ℕ) (v : A) (rows : List A) → find (λ r. ino r == i) rows ≡ Some v → ino v ≡ i
found_ino ino i v [] e = cc
found_ino {A} ino i v (x ∷ xs) e = go (ino x == i) refl e (found_ino ino i v xs)
  where
    go : (b : Bool) → (ino x == i) ≡ b → (if b then Some x else find (λ r. ino r == i) xs) ≡ Some v → (find (λ r. ino r == i) xs ≡ Some v → ino v ≡ i) → ino v ≡ i
    go true q e f = ap ino (sym (some_is e)) ∙ eqb-true _ _ q
    go false q e f = f e

-- tests of lists
pub any_filter : {A : Type 0} (p q : A → Bool) (xs : List A) → list_any p (filter q xs) ≡ true → list_any p xs ≡ true
any_filter p q [] h = h
any_filter {A} p q (x ∷ xs) h = go (q x) (p x) refl h (any_filter p q xs)
  where
    go : (b c : Bool) → p x ≡ c → list_any p (if b then x ∷ filter q xs else filter q xs) ≡ true → (list_any p (filter q xs) ≡ true → list_any p xs ≡ true) → (c || list_any p xs) ≡ true
    go b true e h f = refl
    go true false e h f = f (sym (ap (λ v. v || list_any p (filter q xs)) e) ∙ h)
    go false false e h f = f h

pub any_last : {A : Type 0} (p : A → Bool) (x : A) (xs : List A) → list_any p (xs ++ x ∷ []) ≡ true → (list_any p xs ≡ true) ⊎ (p x ≡ true)
any_last p x [] h = go (p x) refl h
  where
    go : (b : Bool) → p x ≡ b → (b || false) ≡ true → (false ≡ true) ⊎ (p x ≡ true)
    go true e h = inr e
    go false e h = cc
any_last {A} p x (y ∷ xs) h = go (p y) h (any_last p x xs)
  where
    go : (b : Bool) → (b || list_any p (xs ++ x ∷ [])) ≡ true → (list_any p (xs ++ x ∷ []) ≡ true → (list_any p xs ≡ true) ⊎ (p x ≡ true)) → ((b || list_any p xs) ≡ true) ⊎ (p x ≡ true)
    go true h f = inl refl
    go false h f = f h

pub or_false : (a b : Bool) → (a || b) ≡ false → (a ≡ false) × (b ≡ false)
or_false true b e = cc
or_false false b e = (refl, e)

pub or_cases : (a b : Bool) → (a || b) ≡ true → (a ≡ true) ⊎ (b ≡ true)
or_cases true b e = inl refl
or_cases false b e = inr e

pub or_left : (a b : Bool) → a ≡ true → (a || b) ≡ true
or_left a b e = ap (λ x. x || b) e

pub or_right : (a b : Bool) → b ≡ true → (a || b) ≡ true
or_right true b e = refl
or_right false b e = e
