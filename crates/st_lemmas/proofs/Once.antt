-- Lists of which no two members are the same by a test: after a filter, a change in place, a row that was put, and more rows.
use Rattle.std.proofs.Common.{◌≡◌, ◌⊎◌, Bool, true, false, ◌||◌, List, [], ◌∷◌, ◌++◌, refl, ap, ◌∙◌, sym, subst, inl, inr}
use Rattle.std.specs.Prelude.{not, cond, find, filter, map, Some, if◌then◌else◌}
use Rattle.std.specs.List.{list_any}
use Rattle.st_rules.specs.Keys.{put}
use Rattle.st_rules.specs.ServerInvariants.{are_once}
use Rattle.st_lemmas.specs.Lists.{Has}
use Rattle.st_lemmas.proofs.Puts.{has_put}
use Rattle.st_lemmas.proofs.Tables.{and_true, and_both, not_true, cond_true, cond_false, none_passes, has_filter, has_map, has_append}

-- what no member passes
pub none_any : {A : Type 0} (q : A → Bool) (xs : List A) → ((y : A) → Has y xs → q y ≡ false) → list_any q xs ≡ false
none_any q [] h = refl
none_any q (x ∷ xs) h = ap (λ b. b || list_any q xs) (h x (inl refl)) ∙ none_any q xs (λ y i. h y (inr i))

-- the first member is the same as no other, and no two of the others are the same
pub once_first : {A : Type 0} (same : A → A → Bool) (x : A) (xs : List A) → are_once same (x ∷ xs) ≡ true → (y : A) → Has y xs → same x y ≡ false
unfolding are_once
once_first same x xs e y h = none_passes (same x) xs (not_true _ (and_true _ _ e).0) y h

pub once_rest : {A : Type 0} (same : A → A → Bool) (x : A) (xs : List A) → are_once same (x ∷ xs) ≡ true → are_once same xs ≡ true
unfolding are_once
once_rest same x xs e = (and_true _ _ e).1

pub once_both : {A : Type 0} (same : A → A → Bool) (x : A) (xs : List A) → ((y : A) → Has y xs → same x y ≡ false) → are_once same xs ≡ true → are_once same (x ∷ xs) ≡ true
unfolding are_once
once_both same x xs h e = and_both _ _ (ap not (none_any (same x) xs h)) e

pub once_none : {A : Type 0} (same : A → A → Bool) → are_once same [] ≡ true
unfolding are_once
once_none same = refl

-- some members are left out
pub once_filter : {A : Type 0} (same : A → A → Bool) (q : A → Bool) (xs : List A) → are_once same xs ≡ true → are_once same (filter q xs) ≡ true
once_filter same q [] e = e
once_filter {A} same q (x ∷ xs) e = go (q x) refl (once_filter same q xs (once_rest same x xs e))
  where
    go : (b : Bool) → q x ≡ b → are_once same (filter q xs) ≡ true → are_once same (cond b (x ∷ filter q xs) (filter q xs)) ≡ true
    go true f i = once_both same x (filter q xs) (λ y h. once_first same x xs e y (has_filter q xs y h).0) i
    go false f i = i

-- members are changed in place, so that the test says the same of any two as before
pub once_map : {A : Type 0} (same : A → A → Bool) (f : A → A) → ((x y : A) → same (f x) (f y) ≡ same x y) → (xs : List A) → are_once same xs ≡ true → are_once same (map f xs) ≡ true
once_map same f k [] e = e
once_map same f k (x ∷ xs) e =
    once_both same (f x) (map f xs)
    (λ y h. let m = has_map f xs y h in ap (same (f x)) m.2 ∙ k x m.0 ∙ once_first same x xs e m.0 m.1)
    (once_map same f k xs (once_rest same x xs e))

-- a row is put in the place of the one that is the same
pub once_put : {A : Type 0} (same : A → A → Bool) (p : A → Bool) (x : A) → ((y z : A) → p y ≡ true → same x z ≡ same y z) → ((y : A) → p y ≡ false → same y x ≡ false) →
    (xs : List A) → are_once same xs ≡ true → are_once same (put p x xs) ≡ true
unfolding put
once_put same p x own other [] e = once_both same x [] (λ y h. elim h [ ]) e
once_put {A} same p x own other (y ∷ ys) e = go (p y) refl (once_put same p x own other ys (once_rest same y ys e))
  where
    there : p y ≡ false → (z : A) → (z ≡ x) ⊎ Has z ys → same y z ≡ false
    there f z (inl i) = ap (same y) i ∙ other y f
    there f z (inr h) = once_first same y ys e z h

    go : (b : Bool) → p y ≡ b → are_once same (put p x ys) ≡ true → are_once same (if b then x ∷ ys else y ∷ put p x ys) ≡ true
    go true f i = once_both same x ys (λ z h. own y z f ∙ once_first same y ys e z h) (once_rest same y ys e)
    go false f i = once_both same y (put p x ys) (λ z h. there f z (has_put p x ys z h)) i

-- more members, none of which is the same as one of the first
pub once_append : {A : Type 0} (same : A → A → Bool) (xs ys : List A) → are_once same xs ≡ true → are_once same ys ≡ true →
    ((x y : A) → Has x xs → Has y ys → same x y ≡ false) → are_once same (xs ++ ys) ≡ true
once_append same [] ys e f h = f
once_append {A} same (x ∷ xs) ys e f h =
    once_both same x (xs ++ ys) (λ z i. go z (has_append xs ys z i))
    (once_append same xs ys (once_rest same x xs e) f (λ z y i j. h z y (inr i) j))
  where
    go : (z : A) → Has z xs ⊎ Has z ys → same x z ≡ false
    go z (inl i) = once_first same x xs e z i
    go z (inr j) = h x z (inl refl) j

-- the member itself is found by what it is the same as
pub found_once : {A : Type 0} (same : A → A → Bool) → ((x : A) → same x x ≡ true) → ((x y : A) → same x y ≡ same y x) → (xs : List A) → are_once same xs ≡ true →
    (x : A) → Has x xs → find (same x) xs ≡ Some x
found_once same self flip [] e x h = elim h [ ]
found_once {A} same self flip (y ∷ ys) e x h = go h (λ i. found_once same self flip ys (once_rest same y ys e) x i)
  where
    go : (x ≡ y) ⊎ Has x ys → (Has x ys → find (same x) ys ≡ Some x) → cond (same x y) (Some y) (find (same x) ys) ≡ Some x
    go (inl i) k = cond_true _ _ _ (subst (λ z. same x z ≡ true) i (self x)) ∙ ap Some (sym i)
    go (inr i) k = cond_false _ _ _ (flip x y ∙ once_first same y ys e x i) ∙ k i
