-- Members of lists that are joined, changed in one place, cut, numbered or picked from.
use Rattle.std.proofs.Common.{Bool, List, None, Option, Some, [], ap, arith, false, inl, inr, refl, subst, suc, sym, take, true, zero, ℕ, ◌++◌, ◌+◌, ◌<◌, ◌||◌}
use Rattle.std.proofs.Common.{◌∙◌, ◌∷◌, ◌≡◌, ◌≢◌, ◌≤◌, ◌⊎◌}
use Rattle.std.specs.List.{cons_option, list_any}
use Rattle.std.specs.Prelude.{filter_map, set}
use Rattle.st_lemmas.proofs.Tables.{same_or_not}
use Rattle.st_lemmas.specs.Lists.{Has}
use Rattle.st_rules.specs.Extents.{numbers}

pub some_member_passes : {A : Type 0} (p : A → Bool) (xs : List A) → list_any p xs ≡ true → (x : A) × Has x xs × (p x ≡ true)
some_member_passes p [] e = cc
some_member_passes {A} p (x ∷ xs) e = go (p x) refl e (some_member_passes p xs)
  where
    go : (b : Bool) → p x ≡ b → (b || list_any p xs) ≡ true → (list_any p xs ≡ true → (y : A) × Has y xs × (p y ≡ true)) →
        (y : A) × Has y (x ∷ xs) × (p y ≡ true)
    go true f e k = (x, inl refl, f)
    go false f e k = let z = k e in (z.0, inr z.1, z.2)

pub has_left : {A : Type 0} (xs ys : List A) (x : A) → Has x xs → Has x (xs ++ ys)
has_left [] ys x h = absurd h
has_left (y ∷ xs) ys x (inl e) = inl e
has_left (y ∷ xs) ys x (inr h) = inr (has_left xs ys x h)

pub has_right : {A : Type 0} (xs ys : List A) (x : A) → Has x ys → Has x (xs ++ ys)
has_right [] ys x h = h
has_right (z ∷ zs) ys x h = inr (has_right zs ys x h)

pub has_last : {A : Type 0} (xs : List A) (x : A) → Has x (xs ++ x ∷ [])
has_last [] x = inl refl
has_last (y ∷ xs) x = inr (has_last xs x)

pub has_middle : {A : Type 0} (k p : A) (xs ys : List A) → Has p (xs ++ ys) → Has p (xs ++ k ∷ ys)
has_middle k p [] ys h = inr h
has_middle k p (x ∷ xs) ys (inl e) = inl e
has_middle k p (x ∷ xs) ys (inr h) = inr (has_middle k p xs ys h)

pub has_set : {A : Type 0} (xs : List A) (n : ℕ) (x y : A) → Has y (set xs n x) → (y ≡ x) ⊎ Has y xs
has_set [] n x y h = absurd h
has_set (z ∷ xs) zero x y (inl e) = inl e
has_set (z ∷ xs) zero x y (inr h) = inr (inr h)
has_set (z ∷ xs) (suc n) x y (inl e) = inr (inl e)
has_set (z ∷ xs) (suc n) x y (inr h) = go (has_set xs n x y h)
  where
    go : (y ≡ x) ⊎ Has y xs → (y ≡ x) ⊎ Has y (z ∷ xs)
    go (inl e) = inl e
    go (inr i) = inr (inr i)

pub has_take : {A : Type 0} (n : ℕ) (xs : List A) (x : A) → Has x (take n xs) → Has x xs
has_take zero xs x m = absurd m
has_take (suc n) [] x m = absurd m
has_take (suc n) (y ∷ ys) x (inl e) = inl e
has_take (suc n) (y ∷ ys) x (inr m) = inr (has_take n ys x m)

pub filter_map_of : {A B : Type 0} (f : A → Option B) (xs : List A) (y : B) → Has y (filter_map f xs) → (x : A) × (f x ≡ Some y)
filter_map_of f [] y h = absurd h
filter_map_of {A} {B} f (x ∷ xs) y h = go (f x) refl h (λ h. filter_map_of f xs y h)
  where
    go : (o : Option B) → f x ≡ o → Has y (cons_option o (filter_map f xs)) → (Has y (filter_map f xs) → (z : A) × (f z ≡ Some y)) → (z : A) × (f z ≡ Some y)
    go None e h r = r h
    go (Some v) e (inl q) r = (x, e ∙ ap (λ z. Some z) (sym q))
    go (Some v) e (inr q) r = r q

pub has_filter_map : {A B : Type 0} (f : A → Option B) (xs : List A) (x : A) (y : B) → Has x xs → f x ≡ Some y → Has y (filter_map f xs)
has_filter_map f [] x y h e = absurd h
has_filter_map f (z ∷ xs) x y (inl q) e = subst (λ o. Has y (cons_option o (filter_map f xs))) (sym (ap f (sym q) ∙ e)) (inl refl)
has_filter_map f (z ∷ xs) x y (inr h) e = go (f z) (has_filter_map f xs x y h e)
  where
    go : (o : Option _) → Has y (filter_map f xs) → Has y (cons_option o (filter_map f xs))
    go None i = i
    go (Some v) i = inr i

pub between_in_numbers : (a n i : ℕ) → a ≤ i → i < a + n → Has i (numbers a n)
unfolding numbers
between_in_numbers a zero i l h = absurd (omega (arith, l, h))
between_in_numbers a (suc n) i l h = go (same_or_not i a) (λ m. between_in_numbers (a + 1) n i m (omega (arith, h)))
  where
    go : (i ≡ a) ⊎ (i ≢ a) → (a + 1 ≤ i → Has i (numbers (a + 1) n)) → Has i (numbers a (suc n))
    go (inl e) f = inl e
    go (inr ne) f = inr (f (omega (arith, l, ne)))

pub numbers_between : (a c n : ℕ) → Has n (numbers a c) → (a ≤ n) × (n < a + c)
unfolding numbers
numbers_between a zero n i = absurd i
numbers_between a (suc c) n (inl e) = (omega (arith, e), omega (arith, e))
numbers_between a (suc c) n (inr i) = let z = numbers_between (a + 1) c n i in let x = z.0 in let y = z.1 in (omega (arith, x), omega (arith, y))
