-- Tests of the members of lists: joined, picked, and by weaker tests.
use Rattle.std.proofs.Common.{Bool, List, Option, Some, [], ap, arith, false, find, if◌then◌else◌, length, map, refl, subst, sym, true, ⊎_elim, ◌++◌, ◌||◌, ◌∙◌}
use Rattle.std.proofs.Common.{◌∷◌, ◌≡◌, ◌≤◌}
use Rattle.std.proofs.lemmas.Bool.{cases_Bool}
use Rattle.std.specs.List.{list_all, list_any}
use Rattle.std.specs.Prelude.{filter}
use Rattle.st_lemmas.proofs.Lookups.{or_left, or_right, some_is}
use Rattle.st_lemmas.proofs.Tables.{and_both, and_true}

pub filtered_no_longer : {K : Type 0} (p : K → Bool) (xs : List K) → length (filter p xs) ≤ length xs
filtered_no_longer p [] = omega arith
filtered_no_longer p (x ∷ xs) = ⊎_elim
    (λ t. rw t (omega (arith, filtered_no_longer p xs)))
    (λ f. rw f (omega (arith, filtered_no_longer p xs)))
    (cases_Bool (p x))

-- what is found first is found among those that a test keeps, if the test keeps it
pub find_filtered : {A : Type 0} (p k : A → Bool) (x : A) (xs : List A) → find p xs ≡ Some x → k x ≡ true → find p (filter k xs) ≡ Some x
find_filtered p k x [] e t = cc e
find_filtered {A} p k x (z ∷ xs) e t = go (p z) (k z) refl refl e (find_filtered p k x xs)
  where
    go : (b d : Bool) → p z ≡ b → k z ≡ d → (if b then Some z else find p xs) ≡ Some x → (find p xs ≡ Some x → k x ≡ true → find p (filter k xs) ≡ Some x) →
        find p (if d then z ∷ filter k xs else filter k xs) ≡ Some x
    go true true q r e f = ap (λ b. if b then Some z else find p (filter k xs)) q ∙ e
    go true false q r e f = absurd (clash (subst (λ y. k y ≡ true) (sym (some e)) t) r)
      where
        some : ◌≡◌ {A = Option A} (Some z) (Some x) → z ≡ x
        some e = cc

        clash : {b : Bool} → b ≡ true → b ≡ false → ⊥
        clash x y = cc
    go false true q r e f = ap (λ b. if b then Some z else find p (filter k xs)) q ∙ f e t
    go false false q r e f = f e t

pub find_longer : {A : Type 0} (p : A → Bool) (x : A) (xs ys : List A) → find p xs ≡ Some x → find p (xs ++ ys) ≡ Some x
find_longer p x [] ys e = cc e
find_longer {A} p x (z ∷ xs) ys e = go (p z) refl e (find_longer p x xs ys)
  where
    go : (b : Bool) → p z ≡ b → (if b then Some z else find p xs) ≡ Some x → (find p xs ≡ Some x → find p (xs ++ ys) ≡ Some x) →
        (if p z then Some z else find p (xs ++ ys)) ≡ Some x
    go true q e f = ap (λ b. if b then Some z else find p (xs ++ ys)) q ∙ e
    go false q e f = ap (λ b. if b then Some z else find p (xs ++ ys)) q ∙ f e

pub all_last : {A : Type 0} (p : A → Bool) (xs : List A) (y : A) → list_all p xs ≡ true → p y ≡ true → list_all p (xs ++ y ∷ []) ≡ true
all_last p [] y e f = and_both (p y) true f refl
all_last p (x ∷ xs) y e f = let z = and_true (p x) (list_all p xs) e in and_both (p x) _ z.0 (all_last p xs y z.1 f)

pub none_of_fewer : {A : Type 0} (p q : A → Bool) → ((x : A) → p x ≡ true → q x ≡ true) → (xs : List A) → list_any q xs ≡ false → list_any p xs ≡ false
none_of_fewer p q h [] e = e
none_of_fewer {A} p q h (x ∷ xs) e = go (p x) (q x) refl refl e (none_of_fewer p q h xs)
  where
    go : (a b : Bool) → p x ≡ a → q x ≡ b → (b || list_any q xs) ≡ false → (list_any q xs ≡ false → list_any p xs ≡ false) → (a || list_any p xs) ≡ false
    go true true u v e f = cc
    go true false u v e f = let z = sym (h x u) ∙ v in cc
    go false true u v e f = cc
    go false false u v e f = f e

pub any_with_last : {A : Type 0} (p : A → Bool) (xs : List A) (x : A) → p x ≡ true → list_any p (xs ++ x ∷ []) ≡ true
any_with_last p [] x e = or_left (p x) false e
any_with_last p (y ∷ ys) x e = or_right (p y) (list_any p (ys ++ x ∷ [])) (any_with_last p ys x e)

pub any_map : {A : Type 0} (p : A → Bool) (f : A → A) → ((x : A) → p (f x) ≡ p x) → (xs : List A) → list_any p (map f xs) ≡ list_any p xs
any_map p f h [] = refl
any_map p f h (x ∷ xs) = ap (λ b. b || list_any p (map f xs)) (h x) ∙ ap (λ b. p x || b) (any_map p f h xs)

pub any_same : {X : Type 0} (p q : X → Bool) (xs : List X) → ((x : X) → p x ≡ q x) → list_any p xs ≡ list_any q xs
any_same p q [] h = refl
any_same p q (x ∷ xs) h = λ i. h x i || any_same p q xs h i

pub found_passes : {A : Type 0} (p : A → Bool) (xs : List A) (v : A) → find p xs ≡ Some v → p v ≡ true
found_passes p [] v e = cc
found_passes p (x ∷ xs) v e = go (p x) refl e (found_passes p xs v)
  where
    go : (b : Bool) → p x ≡ b → (if b then Some x else find p xs) ≡ Some v → (find p xs ≡ Some v → p v ≡ true) → p v ≡ true
    go true q e f = subst (λ z. p z ≡ true) (some_is e) q
    go false q e f = f e
