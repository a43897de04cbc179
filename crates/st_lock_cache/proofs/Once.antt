-- Rows of which no two have one key: after one was put in place of another, and after one went last in place of another.
use Rattle.st_lemmas.proofs.Words
use Words.{◌≡◌, ℕ, ◌⊎◌, Bool, true, false, ◌==◌, not, List, [], ◌∷◌, ◌++◌, Some, refl, sym, ap, ◌∙◌, inl, inr, find, filter, eqb-true, eq-eqb, not-true}
use Words.Keys.{put}
use Words.ServerInvariants.{are_once}
use Words.Lists.{Has}
use Words.Lookups.{some_is}
use Words.Tables.{has_filter}
use Words.Truth.{eqb_turned}
use Rattle.st_lemmas.proofs.Once as lists

-- the row has this key
abbrev pub has_key : {A : Type 0} → (A → ℕ) → ℕ → A → Bool
has_key key n x = key x == n

-- two rows with one key
abbrev pub same_key : {A : Type 0} → (A → ℕ) → A → A → Bool
same_key key x y = key y == key x

-- the rows except for those of a key
abbrev pub without_key : {A : Type 0} → (A → ℕ) → ℕ → List A → List A
without_key key n xs = filter (λ x. not (has_key key n x)) xs

-- a row is put in place of that of its key
pub once_put : {A : Type 0} (key : A → ℕ) (x : A) (xs : List A) → are_once (same_key key) xs ≡ true →
    are_once (same_key key) (put (has_key key (key x)) x xs) ≡ true
once_put key x xs h =
    lists.once_put (same_key key) (has_key key (key x)) x (λ y z e. ap (λ n. key z == n) (sym (eqb-true (key y) (key x) e)))
    (λ y e. eqb_turned (key x) (key y) ∙ e) xs h

-- a row goes last in place of those of its key
pub once_with : {A : Type 0} (key : A → ℕ) (x : A) (xs : List A) → are_once (same_key key) xs ≡ true →
    are_once (same_key key) (without_key key (key x) xs ++ x ∷ []) ≡ true
once_with {A} key x xs h =
    lists.once_append (same_key key) (without_key key (key x) xs) (x ∷ []) (lists.once_filter (same_key key) (λ y. not (has_key key (key x) y)) xs h)
    (lists.once_both (same_key key) x [] (λ y m. elim m [ ]) (lists.once_none (same_key key))) other
  where
    other : (y z : A) → Has y (without_key key (key x) xs) → (z ≡ x) ⊎ Has z [] → same_key key y z ≡ false
    other y z m (inl e) = ap (λ w. key w == key y) e ∙ eqb_turned (key x) (key y) ∙ not-true _ (has_filter (λ w. not (has_key key (key x) w)) xs y m).1
    other y z m (inr i) = elim i [ ]

-- a member that has the key is the row that is found
pub once_found : {A : Type 0} (key : A → ℕ) (n : ℕ) (v : A) (xs : List A) (y : A) → are_once (same_key key) xs ≡ true →
    find (has_key key n) xs ≡ Some v → Has y xs → key y ≡ n → y ≡ v
once_found key n v xs y h e m k =
    some_is
    (sym (lists.found_once (same_key key) (λ x. eq-eqb (key x) (key x) refl) (λ a b. eqb_turned (key b) (key a)) xs h y m)
    ∙ ap (λ i. find (has_key key i) xs) k ∙ e)
