-- Where a test of the members of a list passes, and where it fails.
use Rattle.st_lemmas.proofs.Words
use Words.{◌≡◌, Bool, true, false, ◌||◌, List, [], ◌∷◌, ◌++◌, refl, ap}
use Words.{list_any}

pub any_parts : {A : Type 0} (p : A → Bool) (xs : List A) (o : A) → list_any p (xs ++ o ∷ []) ≡ false → (list_any p xs ≡ false) × (p o ≡ false)
any_parts p [] o q = (refl, go (p o) q)
  where
    go : (b : Bool) → (b || false) ≡ false → b ≡ false
    go true h = cc h
    go false h = refl
any_parts p (x ∷ xs) o q = go (p x) q (any_parts p xs o)
  where
    go : (b : Bool) → (b || list_any p (xs ++ o ∷ [])) ≡ false → (list_any p (xs ++ o ∷ []) ≡ false → (list_any p xs ≡ false) × (p o ≡ false)) →
        ((b || list_any p xs) ≡ false) × (p o ≡ false)
    go true h r = cc h
    go false h r = r h

pub any_before : {A : Type 0} (p : A → Bool) (xs : List A) (o : A) → list_any p (xs ++ o ∷ []) ≡ true → p o ≡ false → list_any p xs ≡ true
any_before p [] o q n = go (p o) n q
  where
    go : (b : Bool) → b ≡ false → (b || false) ≡ true → false ≡ true
    go true e h = cc e
    go false e h = h
any_before p (x ∷ xs) o q n = go (p x) q (λ z. any_before p xs o z n)
  where
    go : (b : Bool) → (b || list_any p (xs ++ o ∷ [])) ≡ true → (list_any p (xs ++ o ∷ []) ≡ true → list_any p xs ≡ true) → (b || list_any p xs) ≡ true
    go true h r = refl
    go false h r = r h

-- where a member is that passes
pub record Found {A : Type 0} (p : A → Bool) (xs : List A) : Type 0 where
  pub front : List A
  pub it : A
  pub back : List A
  pub is : xs ≡ front ++ it ∷ back
  pub passes : p it ≡ true

pub found_in : {A : Type 0} (p : A → Bool) (xs : List A) → list_any p xs ≡ true → Found p xs
found_in p [] q = cc q
found_in {A} p (x ∷ xs) q = go (p x) refl q (found_in p xs)
  where
    go : (b : Bool) → p x ≡ b → (b || list_any p xs) ≡ true → (list_any p xs ≡ true → Found p xs) → Found p (x ∷ xs)
    go true e h r = record { front = []; it = x; back = xs; is = refl; passes = e }
    go false e h r = let z = r h in record { front = x ∷ z.front; it = z.it; back = z.back; is = ap (λ ys. x ∷ ys) z.is; passes = z.passes }

pub any_front : {A : Type 0} (p : A → Bool) (xs ys : List A) → list_any p (xs ++ ys) ≡ false → list_any p xs ≡ false
any_front p [] ys q = refl
any_front p (x ∷ xs) ys q = go (p x) q (any_front p xs ys)
  where
    go : (b : Bool) → (b || list_any p (xs ++ ys)) ≡ false → (list_any p (xs ++ ys) ≡ false → list_any p xs ≡ false) → (b || list_any p xs) ≡ false
    go true h r = cc h
    go false h r = r h
