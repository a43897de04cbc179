-- Rows of which no two have the same key: after one was put, and after rows were changed under their keys.
use Rattle.std.proofs.Common.{◌≡◌, ℕ, Bool, true, false, ◌&&◌, ◌||◌, ◌==◌, not, cond, List, [], ◌∷◌, refl, sym, ap, ◌∙◌, subst}
use Rattle.std.specs.Prelude.{map}
use Rattle.std.specs.List.{list_any}
use Rattle.std.proofs.lemmas.Bool.{eqb-true, eqb-false, ne_eqb, and_parts, and_from}
use Rattle.st_rules.specs.Keys.{put}
use Rattle.st_rules.specs.ServerInvariants.{are_once}

-- the row has this key
abbrev pub has_key : {A : Type 0} → (A → ℕ) → ℕ → A → Bool
has_key key n x = key x == n

-- two rows with the same key
abbrev pub same_key : {A : Type 0} → (A → ℕ) → A → A → Bool
same_key key x y = key y == key x

any_put : {A : Type 0} (key : A → ℕ) (n : ℕ) (x : A) (ys : List A) → (key x == n) ≡ false →
    list_any (has_key key n) (put (has_key key (key x)) x ys) ≡ list_any (has_key key n) ys
unfolding put
any_put key n x [] e = ap (λ (b : Bool). b || false) e
any_put {A} key n x (y ∷ ys) e = go (key y == key x) refl (any_put key n x ys e)
  where
    go : (b : Bool) → (key y == key x) ≡ b → list_any (has_key key n) (put (has_key key (key x)) x ys) ≡ list_any (has_key key n) ys →
        list_any (has_key key n) (cond b (x ∷ ys) (y ∷ put (has_key key (key x)) x ys)) ≡ ((key y == n) || list_any (has_key key n) ys)
    go true f i = ap (λ (m : ℕ). (m == n) || list_any (has_key key n) ys) (sym (eqb-true (key y) (key x) f))
    go false f i = ap (λ (b : Bool). (key y == n) || b) i

pub once_put : {A : Type 0} (key : A → ℕ) (x : A) (xs : List A) → are_once (same_key key) xs ≡ true →
    are_once (same_key key) (put (has_key key (key x)) x xs) ≡ true
unfolding put are_once
once_put key x [] h = refl
once_put {A} key x (y ∷ ys) h =
    go (key y == key x) refl (and_parts (not (list_any (same_key key y) ys)) (are_once (same_key key) ys) h) (once_put key x ys)
  where
    go : (b : Bool) → (key y == key x) ≡ b → (not (list_any (same_key key y) ys) ≡ true) × (are_once (same_key key) ys ≡ true) →
        (are_once (same_key key) ys ≡ true → are_once (same_key key) (put (has_key key (key x)) x ys) ≡ true) →
        are_once (same_key key) (cond b (x ∷ ys) (y ∷ put (has_key key (key x)) x ys)) ≡ true
    go true f q i =
        and_from _ _ (subst (λ (m : ℕ). not (list_any (has_key key m) ys) ≡ true) (eqb-true (key y) (key x) f) q.0) q.1
    go false f q i =
        and_from _ _
        (ap not (any_put key (key y) x ys (ne_eqb (key x) (key y) (λ e. eqb-false (key y) (key x) f (sym e)))) ∙ q.0)
        (i q.1)

any_map : {A : Type 0} (key : A → ℕ) (n : ℕ) (f : A → A) → ((x : A) → key (f x) ≡ key x) → (xs : List A) →
    list_any (has_key key n) (map f xs) ≡ list_any (has_key key n) xs
any_map key n f h [] = refl
any_map key n f h (x ∷ xs) =
    ap (λ (m : ℕ). (m == n) || list_any (has_key key n) (map f xs)) (h x) ∙ ap (λ (b : Bool). (key x == n) || b) (any_map key n f h xs)

pub once_map : {A : Type 0} (key : A → ℕ) (f : A → A) → ((x : A) → key (f x) ≡ key x) → (xs : List A) →
    are_once (same_key key) (map f xs) ≡ are_once (same_key key) xs
unfolding are_once
once_map key f h [] = refl
once_map key f h (x ∷ xs) =
    ap (λ (m : ℕ). not (list_any (has_key key m) (map f xs)) && are_once (same_key key) (map f xs)) (h x)
    ∙ ap (λ (b : Bool). not b && are_once (same_key key) (map f xs)) (any_map key (key x) f h xs)
    ∙ ap (λ (b : Bool). not (list_any (same_key key x) xs) && b) (once_map key f h xs)
