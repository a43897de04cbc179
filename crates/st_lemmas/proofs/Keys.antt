-- Keys of rows in rising order: which keys there are, in what order, and the least.
use Rattle.std.proofs.Common.{◌≡◌, ℕ, ◌<◌, ◌≤◌, ◌⊎◌, Bool, true, false, ◌||◌, List, [], ◌∷◌, ◌==◌, Option, Some, None, refl, sym, ap, ◌∙◌, subst, inl, inr, arith, if◌then◌else◌}
use Rattle.std.specs.Prelude.{slice_get, nat_lt}
use Rattle.std.specs.List.{list_any}
use Rattle.std.proofs.lemmas.Bool.{eqb-true, eqb-false, ltb-true, ltb-false}
use Rattle.st_rules.specs.Keys.{past, placed, with_key, rising, least}
use Rattle.st_lemmas.specs.Lists.{Has, Rises}

-- one more key
pub has_with_key : (k : ℕ) (xs : List ℕ) (y : ℕ) → Has y (with_key k xs) → (y ≡ k) ⊎ Has y xs
unfolding with_key placed past
has_with_key k [] y h = h
has_with_key k (x ∷ xs) y h = go (nat_lt k x) (k == x) h (has_with_key k xs y)
  where
    more : (y ≡ k) ⊎ Has y xs → (y ≡ k) ⊎ ((y ≡ x) ⊎ Has y xs)
    more (inl e) = inl e
    more (inr m) = inr (inr m)

    go : (b c : Bool) → Has y (if b then k ∷ (x ∷ xs) else if c then x ∷ xs else x ∷ with_key k xs) → (Has y (with_key k xs) → (y ≡ k) ⊎ Has y xs) → (y ≡ k) ⊎ ((y ≡ x) ⊎ Has y xs)
    go true c h i = h
    go false true h i = inr h
    go false false (inl e) i = inr (inl e)
    go false false (inr m) i = more (i m)

pub has_with_key_self : (k : ℕ) (xs : List ℕ) → Has k (with_key k xs)
unfolding with_key placed past
has_with_key_self k [] = inl refl
has_with_key_self k (x ∷ xs) = go (nat_lt k x) (k == x) refl (has_with_key_self k xs)
  where
    go : (b c : Bool) → (k == x) ≡ c → Has k (with_key k xs) → Has k (if b then k ∷ (x ∷ xs) else if c then x ∷ xs else x ∷ with_key k xs)
    go true c e i = inl refl
    go false true e i = inl (eqb-true _ _ e)
    go false false e i = inr i

pub has_with_key_old : (k : ℕ) (xs : List ℕ) (y : ℕ) → Has y xs → Has y (with_key k xs)
unfolding with_key placed past
has_with_key_old k [] y h = elim h [ ]
has_with_key_old k (x ∷ xs) y h = go (nat_lt k x) (k == x) h (has_with_key_old k xs y)
  where
    go : (b c : Bool) → (y ≡ x) ⊎ Has y xs → (Has y xs → Has y (with_key k xs)) → Has y (if b then k ∷ (x ∷ xs) else if c then x ∷ xs else x ∷ with_key k xs)
    go true c h i = inr h
    go false true h i = h
    go false false (inl e) i = inl e
    go false false (inr m) i = inr (i m)

rises_with : (k : ℕ) (xs : List ℕ) → Rises xs → Rises (with_key k xs)
unfolding with_key placed past
rises_with k [] r = record { first = λ y h. elim h [ ]; rest = tt }
rises_with k (x ∷ xs) r = go (nat_lt k x) (k == x) refl refl (rises_with k xs r.rest)
  where
    over : nat_lt k x ≡ true → (y : ℕ) → (y ≡ x) ⊎ Has y xs → k < y
    over e y (inl q) = let l = ltb-true k x e in omega arith
    over e y (inr m) = let l = ltb-true k x e in let n = r.first y m in omega arith

    under : nat_lt k x ≡ false → (k == x) ≡ false → (y : ℕ) → (y ≡ k) ⊎ Has y xs → x < y
    under e f y (inl q) = let l = ltb-false k x e in let n = eqb-false k x f in omega arith
    under e f y (inr m) = r.first y m

    go : (b c : Bool) → nat_lt k x ≡ b → (k == x) ≡ c → Rises (with_key k xs) → Rises (if b then k ∷ (x ∷ xs) else if c then x ∷ xs else x ∷ with_key k xs)
    go true c e f i = record { first = over e; rest = r }
    go false true e f i = r
    go false false e f i = record { first = λ y h. under e f y (has_with_key k xs y h); rest = i }

-- the keys of a list in rising order: the same keys, each once, in order
pub rising_has : (ks : List ℕ) (y : ℕ) → Has y (rising ks) → Has y ks
unfolding rising
rising_has [] y h = h
rising_has (k ∷ ks) y h = go (has_with_key k (rising ks) y h) (rising_has ks y)
  where
    go : (y ≡ k) ⊎ Has y (rising ks) → (Has y (rising ks) → Has y ks) → (y ≡ k) ⊎ Has y ks
    go (inl e) i = inl e
    go (inr m) i = inr (i m)

pub rising_has_in : (ks : List ℕ) (y : ℕ) → Has y ks → Has y (rising ks)
unfolding rising
rising_has_in [] y h = h
rising_has_in (k ∷ ks) y (inl e) = subst (λ z. Has z (with_key k (rising ks))) (sym e) (has_with_key_self k (rising ks))
rising_has_in (k ∷ ks) y (inr m) = has_with_key_old k (rising ks) y (rising_has_in ks y m)

pub rising_rises : (ks : List ℕ) → Rises (rising ks)
unfolding rising
rising_rises [] = tt
rising_rises (k ∷ ks) = rises_with k (rising ks) (rising_rises ks)

pub least_some : (ks : List ℕ) (k : ℕ) → least ks ≡ Some k → Has k ks
unfolding least
least_some ks k e = rising_has ks k (go (rising ks) e)
  where
    go : (xs : List ℕ) → slice_get xs 0 ≡ Some k → Has k xs
    go [] e = cc
    go (x ∷ xs) e = inl (flip e)
      where
        flip : ◌≡◌ {A = Option ℕ} (Some x) (Some k) → k ≡ x
        flip e = cc
