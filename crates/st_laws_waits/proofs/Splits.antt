-- What a law over whole runs needs of lists: a list with one more item is split at its last item or earlier, so a fact of all moments since an
-- earlier one is carried from step to step.
use Rattle.st_lemmas.proofs.Words
use Words.{◌≡◌, ℕ, List, [], ◌∷◌, ◌++◌, refl, sym, ap, subst, inl, inr, ServerId}
use Words.Safety.{Step}
use Words.Lists.{Has}
use Words.Members.{has_last}
use Rattle.st_laws_waits.specs.Waits.{last_tick, ticked}

-- a list with one more, split
pub data Split {A : Type 0} (past : List A) (x : A) (before : List A) (i : A) (during : List A) : Type 0 where
  At_last : before ≡ past → i ≡ x → during ≡ [] → Split past x before i during
  Earlier : (some : List A) → during ≡ some ++ x ∷ [] → past ≡ before ++ i ∷ some → Split past x before i during

pub head_is : {A : Type 0} (x y : A) (xs ys : List A) → x ∷ xs ≡ y ∷ ys → x ≡ y
head_is x y xs ys e = cc

pub tail_is : {A : Type 0} (x y : A) (xs ys : List A) → x ∷ xs ≡ y ∷ ys → xs ≡ ys
tail_is x y xs ys e = cc

pub not_empty : {A : Type 0} (xs : List A) (y : A) (ys : List A) → [] ≡ xs ++ y ∷ ys → ⊥
not_empty [] y ys e = cc
not_empty (x ∷ xs) y ys e = cc

pub split : {A : Type 0} (past : List A) (x : A) (before : List A) (i : A) (during : List A) → past ++ x ∷ [] ≡ before ++ i ∷ during →
    Split past x before i during
split [] x [] i during e = At_last refl (sym (head_is x i [] during e)) (sym (tail_is x i [] during e))
split [] x (b ∷ bs) i during e = absurd (not_empty bs i during (tail_is x b [] (bs ++ i ∷ during) e))
split (p ∷ ps) x [] i during e = Earlier ps (sym (tail_is p i (ps ++ x ∷ []) during e)) (ap (λ y. y ∷ ps) (head_is p i (ps ++ x ∷ []) during e))
split (p ∷ ps) x (b ∷ bs) i during e = go (split ps x bs i during (tail_is p b (ps ++ x ∷ []) (bs ++ i ∷ during) e))
  where
    same : p ≡ b
    same = head_is p b (ps ++ x ∷ []) (bs ++ i ∷ during) e

    go : Split ps x bs i during → Split (p ∷ ps) x (b ∷ bs) i during
    go (At_last f g h) = At_last ((λ j. sym same j ∷ f j)) g h
    go (Earlier d f g) = Earlier d f (λ j. same j ∷ g j)

pub has_more : {A : Type 0} (xs : List A) (y x : A) → Has y xs → Has y (xs ++ x ∷ [])
has_more [] y x h = elim h [ ]
has_more (z ∷ zs) y x (inl e) = inl e
has_more (z ∷ zs) y x (inr h) = inr (has_more zs y x h)

pub last_in : {A : Type 0} (past : List A) (x : A) (before : List A) (i : A) (during : List A) → Split past x before i during → Has x (i ∷ during)
last_in past x before i during (At_last f g h) = inl (sym g)
last_in {A} past x before i during (Earlier d f g) = inr (subst (Has x) (sym f) (has_last d x))

-- the last tick after one more step
pub last_more : (s : ServerId) (t : ℕ) (past : List Step) (x : Step) → last_tick s t (past ++ x ∷ []) ≡ ticked s (last_tick s t past) x
unfolding last_tick
last_more s t [] x = refl
last_more s t (y ∷ ys) x = last_more s (ticked s t y) ys x
