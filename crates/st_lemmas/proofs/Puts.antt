-- Look-ups, members and lengths after a row was put in place of the first that passes.
use Rattle.std.proofs.Common.{◌≡◌, ◌≢◌, ℕ, ◌+◌, ◌≤◌, ◌⊎◌, Bool, true, false, ◌||◌, List, [], ◌∷◌, ◌==◌, Some, None, refl, sym, ap, ◌∙◌, inl, inr, arith, if◌then◌else◌}
use Rattle.std.specs.Prelude.{find, filter, length, map}
use Rattle.std.specs.List.{list_any}
use Rattle.std.proofs.lemmas.Bool.{eqb-true, eq-eqb, ne_eqb}
use Rattle.st_rules.specs.Keys.{put}
use Rattle.st_lemmas.specs.Lists.{Has}
use Rattle.st_lemmas.proofs.Tables.{same_or_not}
use Rattle.st_lemmas.proofs.Lookups.{if_true, if_false}

-- the row that was put is found
pub find_put : {A : Type 0} (p : A → Bool) (x : A) (xs : List A) → p x ≡ true → find p (put p x xs) ≡ Some x
unfolding put
find_put p x [] e = if_true (p x) (Some x) None e
find_put {A} p x (y ∷ ys) e = go (p y) refl (find_put p x ys e)
  where
    go : (b : Bool) → p y ≡ b → find p (put p x ys) ≡ Some x → find p (if b then x ∷ ys else y ∷ put p x ys) ≡ Some x
    go true f i = if_true (p x) _ _ e
    go false f i = if_false (p y) _ _ f ∙ i

-- also by another test that takes the row, and of the other rows only such as pass
pub find_put_by : {A : Type 0} (q p : A → Bool) (x : A) (xs : List A) → q x ≡ true → ((y : A) → q y ≡ true → p y ≡ true) → find q (put p x xs) ≡ Some x
unfolding put
find_put_by q p x [] e h = if_true (q x) (Some x) None e
find_put_by {A} q p x (y ∷ ys) e h = go (p y) (q y) refl refl (find_put_by q p x ys e h)
  where
    go : (b c : Bool) → p y ≡ b → q y ≡ c → find q (put p x ys) ≡ Some x → find q (if b then x ∷ ys else y ∷ put p x ys) ≡ Some x
    go true c f g i = if_true (q x) _ _ e
    go false true f g i = cc (h y g)
    go false false f g i = if_false (q y) _ _ g ∙ i

-- rows of other keys are found as before
pub find_put_other : {A : Type 0} (q p : A → Bool) (x : A) (xs : List A) → q x ≡ false → ((y : A) → q y ≡ true → p y ≡ false) → find q (put p x xs) ≡ find q xs
unfolding put
find_put_other q p x [] e h = if_false (q x) (Some x) None e
find_put_other {A} q p x (y ∷ ys) e h = go (p y) (q y) refl refl (find_put_other q p x ys e h)
  where
    go : (b c : Bool) → p y ≡ b → q y ≡ c → find q (put p x ys) ≡ find q ys → find q (if b then x ∷ ys else y ∷ put p x ys) ≡ (if c then Some y else find q ys)
    go true true f g i = cc (h y g)
    go true false f g i = if_false (q x) _ _ e
    go false true f g i = if_true (q y) _ _ g
    go false false f g i = if_false (q y) _ _ g ∙ i

-- the first row of a number, after a row was put
pub find_put_at : {A : Type 0} (ino : A → ℕ) (v : A) (d : ℕ) (rows : List A) →
    find (λ r. ino r == d) (put (λ r. ino r == ino v) v rows) ≡ (if d == ino v then Some v else find (λ r. ino r == d) rows)
find_put_at {A} ino v d rows = go (same_or_not d (ino v))
  where
    clash : (b : Bool) → b ≡ true → b ≡ false → ⊥
    clash true e f = cc
    clash false e f = cc

    go : (d ≡ ino v) ⊎ (d ≢ ino v) → find (λ r. ino r == d) (put (λ r. ino r == ino v) v rows) ≡ (if d == ino v then Some v else find (λ r. ino r == d) rows)
    go (inl e) =
        find_put_by (λ r. ino r == d) (λ r. ino r == ino v) v rows (eq-eqb _ _ (sym e)) (λ y q. eq-eqb _ _ (eqb-true _ _ q ∙ e))
        ∙ sym (if_true (d == ino v) (Some v) (find (λ r. ino r == d) rows) (eq-eqb _ _ e))
    go (inr n) =
        find_put_other (λ r. ino r == d) (λ r. ino r == ino v) v rows (ne_eqb _ _ (λ q. n (sym q))) (λ y q. ne_eqb _ _ (λ z. n (sym (eqb-true _ _ q) ∙ z)))
        ∙ sym (if_false (d == ino v) (Some v) (find (λ r. ino r == d) rows) (ne_eqb _ _ n))

-- members after a put
pub has_put : {A : Type 0} (p : A → Bool) (x : A) (xs : List A) (y : A) → Has y (put p x xs) → (y ≡ x) ⊎ Has y xs
unfolding put
has_put p x [] y h = h
has_put {A} p x (z ∷ zs) y h = go (p z) h (has_put p x zs y)
  where
    go : (b : Bool) → Has y (if b then x ∷ zs else z ∷ put p x zs) → (Has y (put p x zs) → (y ≡ x) ⊎ Has y zs) → (y ≡ x) ⊎ ((y ≡ z) ⊎ Has y zs)
    go true (inl e) i = inl e
    go true (inr m) i = inr (inr m)
    go false (inl e) i = inr (inl e)
    go false (inr m) i = more (i m)
      where
        more : (y ≡ x) ⊎ Has y zs → (y ≡ x) ⊎ ((y ≡ z) ⊎ Has y zs)
        more (inl e) = inl e
        more (inr n) = inr (inr n)

pub has_put_self : {A : Type 0} (p : A → Bool) (x : A) (xs : List A) → Has x (put p x xs)
unfolding put
has_put_self p x [] = inl refl
has_put_self {A} p x (z ∷ zs) = go (p z) (has_put_self p x zs)
  where
    go : (b : Bool) → Has x (put p x zs) → Has x (if b then x ∷ zs else z ∷ put p x zs)
    go true i = inl refl
    go false i = inr i

-- a row that does not pass stays
pub has_put_other : {A : Type 0} (p : A → Bool) (x : A) (xs : List A) (y : A) → Has y xs → p y ≡ false → Has y (put p x xs)
unfolding put
has_put_other p x [] y h e = elim h [ ]
has_put_other {A} p x (z ∷ zs) y h e = go (p z) refl h (λ m. has_put_other p x zs y m e)
  where
    go : (b : Bool) → p z ≡ b → (y ≡ z) ⊎ Has y zs → (Has y zs → Has y (put p x zs)) → Has y (if b then x ∷ zs else z ∷ put p x zs)
    go true f (inl q) i = let t = ap p q in cc
    go true f (inr m) i = inr m
    go false f (inl q) i = inl q
    go false f (inr m) i = inr (i m)

-- a test that any row passes
pub any_put : {A : Type 0} (q p : A → Bool) (x : A) (xs : List A) → list_any q (put p x xs) ≡ true → (list_any q xs ≡ true) ⊎ (q x ≡ true)
unfolding put
any_put q p x [] h = go (q x) refl h
  where
    go : (b : Bool) → q x ≡ b → (b || false) ≡ true → (false ≡ true) ⊎ (q x ≡ true)
    go true e h = inr e
    go false e h = cc
any_put {A} q p x (y ∷ ys) h = go (p y) (q x) (q y) refl refl h (any_put q p x ys)
  where
    Goal : Bool → Type 0
    Goal c = ((c || list_any q ys) ≡ true) ⊎ (q x ≡ true)

    split : (c a : Bool) → (a || list_any q ys) ≡ true → q x ≡ a → Goal c
    split c true e f = inr f
    split true false e f = inl refl
    split false false e f = inl e

    go : (b a c : Bool) → q x ≡ a → q y ≡ c → list_any q (if b then x ∷ ys else y ∷ put p x ys) ≡ true → (list_any q (put p x ys) ≡ true → (list_any q ys ≡ true) ⊎ (q x ≡ true)) → Goal c
    go true a c f g h i = split c (q x) h refl
    go false a true f g h i = inl refl
    go false a false f g h i = i (sym (ap (λ v. v || list_any q (put p x ys)) g) ∙ h)

-- the length grows by one at most
pub length_put : {A : Type 0} (p : A → Bool) (x : A) (xs : List A) → length (put p x xs) ≤ 1 + length xs
unfolding put
length_put p x [] = omega arith
length_put {A} p x (y ∷ ys) = go (p y) (length_put p x ys)
  where
    go : (b : Bool) → length (put p x ys) ≤ 1 + length ys → length (if b then x ∷ ys else y ∷ put p x ys) ≤ 1 + length (y ∷ ys)
    go true i = omega arith
    go false i = omega arith
