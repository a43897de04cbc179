-- Whether one of several moments has come, by how they were made.
use Rattle.st_lemmas.proofs.Words
use Words.{◌≡◌, ℕ, Bool, true, false, ◌&&◌, ◌||◌, List, [], ◌∷◌, refl, sym, ap, ◌∙◌, cond, nat_lt, filter, flat_map, list_any, map, Stamp}
use Words.{◌==◌, eqb-true}
use Rattle.std.proofs.lemmas.List.Folds.{list_any-append}
use Words.Keys.{past, placed, rising, with_key}
use Rattle.st_due.specs.Moments.{has_come}

pub any_mapped : {A : Type 0} (f : A → ℕ) (now : Stamp) (xs : List A) → list_any (has_come now) (map f xs) ≡ list_any (λ x. has_come now (f x)) xs
any_mapped f now [] = refl
any_mapped f now (x ∷ xs) = ap (λ b. has_come now (f x) || b) (any_mapped f now xs)

pub any_flat : {A : Type 0} (f : A → List ℕ) (now : Stamp) (xs : List A) →
    list_any (has_come now) (flat_map f xs) ≡ list_any (λ x. list_any (has_come now) (f x)) xs
any_flat f now [] = refl
any_flat f now (x ∷ xs) = list_any-append (has_come now) (f x) (flat_map f xs) ∙ ap (λ b. list_any (has_come now) (f x) || b) (any_flat f now xs)

-- A test of keys finds the same in a list and in its keys in rising order.
swapped : (a b c : Bool) → (a || (b || c)) ≡ (b || (a || c))
swapped true true c = refl
swapped true false c = refl
swapped false b c = refl

doubled : (a c : Bool) → (a || (a || c)) ≡ (a || c)
doubled true c = refl
doubled false c = refl

any_with_key : (p : ℕ → Bool) (k : ℕ) (xs : List ℕ) → list_any p (with_key k xs) ≡ (p k || list_any p xs)
unfolding with_key placed past
any_with_key p k [] = refl
any_with_key p k (x ∷ xs) = by (nat_lt k x) (k == x) (eqb-true k x) (any_with_key p k xs)
  where
    by : (a b : Bool) → (b ≡ true → k ≡ x) → list_any p (with_key k xs) ≡ (p k || list_any p xs) →
        list_any p (cond a (k ∷ (x ∷ xs)) (cond b (x ∷ xs) (x ∷ with_key k xs))) ≡ (p k || (p x || list_any p xs))
    by true b e h = refl
    by false true e h = sym (doubled (p x) (list_any p xs)) ∙ ap (λ n. p n || (p x || list_any p xs)) (sym (e refl))
    by false false e h = ap (λ b. p x || b) h ∙ swapped (p x) (p k) (list_any p xs)

pub any_rising : (p : ℕ → Bool) (ks : List ℕ) → list_any p (rising ks) ≡ list_any p ks
unfolding rising
any_rising p [] = refl
any_rising p (k ∷ ks) = any_with_key p k (rising ks) ∙ ap (λ b. p k || b) (any_rising p ks)

pub any_over : {A B : Type 0} (p : B → Bool) (f : A → B) (xs : List A) → list_any p (map f xs) ≡ list_any (λ x. p (f x)) xs
any_over p f [] = refl
any_over p f (x ∷ xs) = ap (λ b. p (f x) || b) (any_over p f xs)

pub any_picked : {A : Type 0} (p q : A → Bool) (xs : List A) → list_any p (filter q xs) ≡ list_any (λ x. q x && p x) xs
any_picked p q [] = refl
any_picked p q (x ∷ xs) = by (q x) ∙ ap (λ b. (q x && p x) || b) (any_picked p q xs)
  where
    by : (b : Bool) → list_any p (cond b (x ∷ filter q xs) (filter q xs)) ≡ ((b && p x) || list_any p (filter q xs))
    by true = refl
    by false = refl
