-- Tests; members of lists; look-ups after a filter, a change in place and one more row.
use Rattle.std.proofs.Common.{◌≡◌, ◌≢◌, ℕ, ◌⊎◌, Bool, true, false, ◌&&◌, ◌||◌, List, [], ◌∷◌, ◌++◌, refl, ap, ◌∙◌, subst, inl, inr, eqb}
use Rattle.std.specs.Prelude.{not, find, filter, map, cond, Option, Some, None, option_map}
use Rattle.std.specs.List.{list_all, list_any}
use Rattle.std.proofs.lemmas.Bool.Decides.{eqb_tells}
use Rattle.st_lemmas.specs.Lists.{Has}

pub same_or_not : (d c : ℕ) → (d ≡ c) ⊎ (d ≢ c)
same_or_not d c = go (eqb_tells d c)
  where
    go : ((eqb d c ≡ true) × (d ≡ c)) ⊎ ((eqb d c ≡ false) × (d ≢ c)) → (d ≡ c) ⊎ (d ≢ c)
    go (inl h) = inl h.1
    go (inr h) = inr h.1

pub and_true : (a b : Bool) → (a && b) ≡ true → (a ≡ true) × (b ≡ true)
and_true true b e = (refl, e)
and_true false b e = cc

pub and_both : (a b : Bool) → a ≡ true → b ≡ true → (a && b) ≡ true
and_both a b e f = ap (λ x. x && b) e ∙ f

pub and_left : (a b : Bool) → a ≡ false → (a && b) ≡ false
and_left a b e = ap (λ x. x && b) e

pub and_right : (a b : Bool) → b ≡ false → (a && b) ≡ false
and_right true b e = e
and_right false b e = refl

pub not_true : (b : Bool) → not b ≡ true → b ≡ false
not_true true e = cc
not_true false e = refl

pub not_false : (b : Bool) → not b ≡ false → b ≡ true
not_false true e = refl
not_false false e = cc

pub cond_true : {A : Type 0} (b : Bool) (x y : A) → b ≡ true → cond b x y ≡ x
cond_true b x y e = ap (λ (v : Bool). cond v x y) e

pub cond_false : {A : Type 0} (b : Bool) (x y : A) → b ≡ false → cond b x y ≡ y
cond_false b x y e = ap (λ (v : Bool). cond v x y) e

-- what holds of either branch if its test holds
pub cond_either : {A : Type 0} (P : A → Type 0) (b : Bool) (x y : A) → (b ≡ true → P x) → (b ≡ false → P y) → P (cond b x y)
cond_either P true x y p q = p refl
cond_either P false x y p q = q refl

pub find_kept : {A : Type 0} (p q : A → Bool) → ((x : A) → p x ≡ true → q x ≡ true) → (xs : List A) → find p (filter q xs) ≡ find p xs
find_kept p q h [] = refl
find_kept {A} p q h (x ∷ xs) = go (p x) (q x) refl refl (find_kept p q h xs)
  where
    go : (a b : Bool) → p x ≡ a → q x ≡ b → find p (filter q xs) ≡ find p xs → find p (cond b (x ∷ filter q xs) (filter q xs)) ≡ cond a (Some x) (find p xs)
    go true true e f i = cond_true (p x) _ _ e
    go false true e f i = cond_false (p x) _ _ e ∙ i
    go true false e f i = cc (h x e)
    go false false e f i = i

pub find_gone : {A : Type 0} (p q : A → Bool) → ((x : A) → p x ≡ true → q x ≡ false) → (xs : List A) → find p (filter q xs) ≡ None
find_gone p q h [] = refl
find_gone {A} p q h (x ∷ xs) = go (p x) (q x) refl refl (find_gone p q h xs)
  where
    go : (a b : Bool) → p x ≡ a → q x ≡ b → find p (filter q xs) ≡ None → find p (cond b (x ∷ filter q xs) (filter q xs)) ≡ None
    go true true e f i = cc (h x e)
    go false true e f i = cond_false (p x) _ _ e ∙ i
    go true false e f i = i
    go false false e f i = i

pub find_map : {A : Type 0} (p : A → Bool) (f : A → A) → ((x : A) → p (f x) ≡ p x) → (xs : List A) → find p (map f xs) ≡ option_map f (find p xs)
find_map p f h [] = refl
find_map {A} p f h (x ∷ xs) = go (p x) refl (find_map p f h xs)
  where
    go : (a : Bool) → p x ≡ a → find p (map f xs) ≡ option_map f (find p xs) → cond (p (f x)) (Some (f x)) (find p (map f xs)) ≡ option_map f (cond a (Some x) (find p xs))
    go true e i = cond_true _ _ _ (h x ∙ e)
    go false e i = cond_false _ _ _ (h x ∙ e) ∙ i

pub find_first : {A : Type 0} (p : A → Bool) (x : A) (xs : List A) → p x ≡ true → find p (x ∷ xs) ≡ Some x
find_first p x xs e = cond_true _ _ _ e

pub find_next : {A : Type 0} (p : A → Bool) (x : A) (xs : List A) → p x ≡ false → find p (x ∷ xs) ≡ find p xs
find_next p x xs e = cond_false _ _ _ e

-- one more row at the end
pub find_last : {A : Type 0} (p : A → Bool) (x : A) (xs : List A) → find p xs ≡ None → p x ≡ true → find p (xs ++ x ∷ []) ≡ Some x
find_last p x [] e f = cond_true _ _ _ f
find_last {A} p x (y ∷ ys) e f = go (p y) refl e (λ e. find_last p x ys e f)
  where
    go : (a : Bool) → p y ≡ a → cond a (Some y) (find p ys) ≡ None → (find p ys ≡ None → find p (ys ++ x ∷ []) ≡ Some x) → cond (p y) (Some y) (find p (ys ++ x ∷ [])) ≡ Some x
    go true g e i = cc
    go false g e i = cond_false _ _ _ g ∙ i e

pub find_before : {A : Type 0} (p : A → Bool) (x : A) (xs : List A) → p x ≡ false → find p (xs ++ x ∷ []) ≡ find p xs
find_before p x [] f = cond_false _ _ _ f
find_before p x (y ∷ ys) f = ap (cond (p y) (Some y)) (find_before p x ys f)

-- what is found
pub Found : {A : Type 0} → (A → Bool) → List A → Option A → Type 0
Found p xs None = Unit {0}
Found p xs (Some x) = (p x ≡ true) × Has x xs

pub found : {A : Type 0} (p : A → Bool) (xs : List A) → Found p xs (find p xs)
unfolding Found
found p [] = tt
found {A} p (x ∷ xs) = go (p x) refl (find p xs) (found p xs)
  where
    go : (a : Bool) → p x ≡ a → (o : Option A) → Found p xs o → Found p (x ∷ xs) (cond a (Some x) o)
    go true e o i = (e, inl refl)
    go false e None i = tt
    go false e (Some y) i = (i.0, inr i.1)

pub found_at : {A : Type 0} (p : A → Bool) (xs : List A) (x : A) → find p xs ≡ Some x → (p x ≡ true) × Has x xs
unfolding Found
found_at p xs x e = subst (Found p xs) e (found p xs)

-- what no row passes, no member passes
pub none_passes : {A : Type 0} (q : A → Bool) (xs : List A) → list_any q xs ≡ false → (x : A) → Has x xs → q x ≡ false
none_passes q [] e x h = elim h [ ]
none_passes {A} q (y ∷ ys) e x h = go (q y) refl e h (λ e i. none_passes q ys e x i)
  where
    go : (b : Bool) → q y ≡ b → (b || list_any q ys) ≡ false → (x ≡ y) ⊎ Has x ys → (list_any q ys ≡ false → Has x ys → q x ≡ false) → q x ≡ false
    go true f e h r = cc
    go false f e (inl i) r = ap q i ∙ f
    go false f e (inr i) r = r e i

pub some_passes : {A : Type 0} (q : A → Bool) (xs : List A) (x : A) → Has x xs → q x ≡ true → list_any q xs ≡ true
some_passes q [] x h e = elim h [ ]
some_passes {A} q (y ∷ ys) x h e = go (q y) refl h (λ i. some_passes q ys x i e)
  where
    go : (b : Bool) → q y ≡ b → (x ≡ y) ⊎ Has x ys → (Has x ys → list_any q ys ≡ true) → (b || list_any q ys) ≡ true
    go true f h r = refl
    go false f (inl i) r = let z = ap q i in cc
    go false f (inr i) r = r i

pub has_filter : {A : Type 0} (p : A → Bool) (xs : List A) (x : A) → Has x (filter p xs) → Has x xs × (p x ≡ true)
has_filter p [] x h = elim h [ ]
has_filter {A} p (y ∷ ys) x h = go (p y) refl h (λ i. has_filter p ys x i)
  where
    go : (b : Bool) → p y ≡ b → Has x (cond b (y ∷ filter p ys) (filter p ys)) → (Has x (filter p ys) → Has x ys × (p x ≡ true)) → Has x (y ∷ ys) × (p x ≡ true)
    go true e (inl i) r = (inl i, ap p i ∙ e)
    go true e (inr i) r = let z = r i in (inr z.0, z.1)
    go false e i r = let z = r i in (inr z.0, z.1)

pub has_append : {A : Type 0} (xs ys : List A) (x : A) → Has x (xs ++ ys) → Has x xs ⊎ Has x ys
has_append [] ys x h = inr h
has_append (y ∷ zs) ys x (inl e) = inl (inl e)
has_append (y ∷ zs) ys x (inr i) = go (has_append zs ys x i)
  where
    go : Has x zs ⊎ Has x ys → Has x (y ∷ zs) ⊎ Has x ys
    go (inl j) = inl (inr j)
    go (inr j) = inr j

pub has_map : {A B : Type 0} (f : A → B) (xs : List A) (y : B) → Has y (map f xs) → (x : A) × Has x xs × (y ≡ f x)
has_map f [] y h = elim h [ ]
has_map f (x ∷ xs) y (inl e) = (x, inl refl, e)
has_map f (x ∷ xs) y (inr i) = let r = has_map f xs y i in (r.0, inr r.1, r.2)

-- the same if only members count
pub find_kept_in : {A : Type 0} (p q : A → Bool) (xs : List A) → ((x : A) → Has x xs → p x ≡ true → q x ≡ true) → find p (filter q xs) ≡ find p xs
find_kept_in p q [] h = refl
find_kept_in {A} p q (x ∷ xs) h = go (p x) (q x) refl refl (find_kept_in p q xs (λ y i. h y (inr i)))
  where
    go : (a b : Bool) → p x ≡ a → q x ≡ b → find p (filter q xs) ≡ find p xs → find p (cond b (x ∷ filter q xs) (filter q xs)) ≡ cond a (Some x) (find p xs)
    go true true e f i = cond_true (p x) _ _ e
    go false true e f i = cond_false (p x) _ _ e ∙ i
    go true false e f i = let z = h x (inl refl) e in cc
    go false false e f i = i

pub find_gone_in : {A : Type 0} (p q : A → Bool) (xs : List A) → ((x : A) → Has x xs → p x ≡ true → q x ≡ false) → find p (filter q xs) ≡ None
find_gone_in p q [] h = refl
find_gone_in {A} p q (x ∷ xs) h = go (p x) (q x) refl refl (find_gone_in p q xs (λ y i. h y (inr i)))
  where
    go : (a b : Bool) → p x ≡ a → q x ≡ b → find p (filter q xs) ≡ None → find p (cond b (x ∷ filter q xs) (filter q xs)) ≡ None
    go true true e f i = let z = h x (inl refl) e in cc
    go false true e f i = cond_false (p x) _ _ e ∙ i
    go true false e f i = i
    go false false e f i = i

-- a change in place of other rows, and of these
pub find_other : {A : Type 0} (p q : A → Bool) (f : A → A) → ((x : A) → p (f x) ≡ p x) → ((x : A) → p x ≡ true → q x ≡ false) → (xs : List A) → find p (map (λ x. cond (q x) (f x) x) xs) ≡ find p xs
find_other p q f k h [] = refl
find_other {A} p q f k h (x ∷ xs) = go (p x) (q x) refl refl (find_other p q f k h xs)
  where
    go : (a b : Bool) → p x ≡ a → q x ≡ b → find p (map (λ x. cond (q x) (f x) x) xs) ≡ find p xs →
        cond (p (cond b (f x) x)) (Some (cond b (f x) x)) (find p (map (λ x. cond (q x) (f x) x) xs)) ≡ cond a (Some x) (find p xs)
    go true true e g i = cc (h x e)
    go true false e g i = cond_true _ _ _ e
    go false true e g i = cond_false _ _ _ (k x ∙ e) ∙ i
    go false false e g i = cond_false _ _ _ e ∙ i

pub find_own : {A : Type 0} (p q : A → Bool) (f : A → A) → ((x : A) → p (f x) ≡ p x) → ((x : A) → p x ≡ true → q x ≡ true) → (xs : List A) → find p (map (λ x. cond (q x) (f x) x) xs) ≡ option_map f (find p xs)
find_own p q f k h [] = refl
find_own {A} p q f k h (x ∷ xs) = go (p x) (q x) refl refl (find_own p q f k h xs)
  where
    go : (a b : Bool) → p x ≡ a → q x ≡ b → find p (map (λ x. cond (q x) (f x) x) xs) ≡ option_map f (find p xs) →
        cond (p (cond b (f x) x)) (Some (cond b (f x) x)) (find p (map (λ x. cond (q x) (f x) x) xs)) ≡ option_map f (cond a (Some x) (find p xs))
    go true true e g i = cond_true _ _ _ (k x ∙ e)
    go true false e g i = cc (h x e)
    go false true e g i = cond_false _ _ _ (k x ∙ e) ∙ i
    go false false e g i = cond_false _ _ _ e ∙ i

pub none_has : {A : Type 0} (p : A → Bool) (xs : List A) → find p xs ≡ None → (x : A) → Has x xs → p x ≡ false
none_has p [] e x h = elim h [ ]
none_has {A} p (y ∷ ys) e x h = go (p y) refl e h (λ e i. none_has p ys e x i)
  where
    go : (b : Bool) → p y ≡ b → cond b (Some y) (find p ys) ≡ None → (x ≡ y) ⊎ Has x ys → (find p ys ≡ None → Has x ys → p x ≡ false) → p x ≡ false
    go true f e h r = cc
    go false f e (inl i) r = ap p i ∙ f
    go false f e (inr i) r = r e i

pub has_filter_in : {A : Type 0} (p : A → Bool) (xs : List A) (x : A) → Has x xs → p x ≡ true → Has x (filter p xs)
has_filter_in p [] x h e = elim h [ ]
has_filter_in {A} p (y ∷ ys) x h e = go (p y) refl h (λ i. has_filter_in p ys x i e)
  where
    go : (b : Bool) → p y ≡ b → (x ≡ y) ⊎ Has x ys → (Has x ys → Has x (filter p ys)) → Has x (cond b (y ∷ filter p ys) (filter p ys))
    go true f (inl i) r = inl i
    go true f (inr i) r = inr (r i)
    go false f (inl i) r = let z = ap p i in cc
    go false f (inr i) r = r i

pub has_map_in : {A B : Type 0} (f : A → B) (xs : List A) (x : A) → Has x xs → Has (f x) (map f xs)
has_map_in f [] x h = elim h [ ]
has_map_in f (y ∷ ys) x (inl e) = inl (ap f e)
has_map_in f (y ∷ ys) x (inr i) = inr (has_map_in f ys x i)

-- what each member passes, the list passes, and the other way round
pub all_pass : {A : Type 0} (p : A → Bool) (xs : List A) → ((x : A) → Has x xs → p x ≡ true) → list_all p xs ≡ true
all_pass p [] h = refl
all_pass p (x ∷ xs) h = and_both (p x) (list_all p xs) (h x (inl refl)) (all_pass p xs (λ y i. h y (inr i)))

pub each_passes : {A : Type 0} (p : A → Bool) (xs : List A) → list_all p xs ≡ true → (x : A) → Has x xs → p x ≡ true
each_passes p [] e x h = elim h [ ]
each_passes {A} p (y ∷ ys) e x h = go (and_true (p y) (list_all p ys) e) h (λ e i. each_passes p ys e x i)
  where
    go : (p y ≡ true) × (list_all p ys ≡ true) → (x ≡ y) ⊎ Has x ys → (list_all p ys ≡ true → Has x ys → p x ≡ true) → p x ≡ true
    go q (inl i) r = ap p i ∙ q.0
    go q (inr i) r = r q.1 i
