-- The first command that a test picks, found from the front.
use Rattle.st_lemmas.proofs.Words
use Words.{◌≡◌, ℕ, zero, suc, ◌+◌, ◌≤◌, Bool, true, false, cond, List, [], ◌∷◌, length, drop, Some, None, refl, sym, ap, ◌∙◌, arith, add-one, ◌||◌, find}
use Words.{is_some, slice_get, list_any}

module _ {A : Type 0} (p : A → Bool) where
  -- the next one is picked
  pub find_here : (xs : List A) (i : ℕ) (x : A) → slice_get xs i ≡ Some x → p x ≡ true → find p (drop i xs) ≡ Some x
  find_here [] i x e h = cc
  find_here (y ∷ ys) zero x e h =
      let same : y ≡ x = cc in
      ap (λ b. cond b (Some y) (find p ys)) (ap p same ∙ h) ∙ e
  find_here (y ∷ ys) (suc i) x e h = find_here ys i x e h

  past : (xs : List A) (i : ℕ) (x : A) → slice_get xs i ≡ Some x → p x ≡ false → find p (drop (suc i) xs) ≡ find p (drop i xs)
  past [] i x e h = cc
  past (y ∷ ys) zero x e h =
      let same : y ≡ x = cc in
      sym (ap (λ b. cond b (Some y) (find p ys)) (ap p same ∙ h))
  past (y ∷ ys) (suc i) x e h = past ys i x e h

  -- the next one is not picked
  pub find_past : (xs : List A) (i : ℕ) (x : A) → slice_get xs i ≡ Some x → p x ≡ false → find p (drop (i + 1) xs) ≡ find p (drop i xs)
  find_past xs i x e h = ap (λ n. find p (drop n xs)) (add-one i) ∙ past xs i x e h

  -- there is no next one
  pub find_end : (xs : List A) (i : ℕ) → length xs ≤ i → find p (drop i xs) ≡ None
  find_end [] zero l = refl
  find_end [] (suc i) l = refl
  find_end (y ∷ ys) zero l = absurd (omega arith)
  find_end (y ∷ ys) (suc i) l = find_end ys i (omega arith)

-- a row passes if one is found
pub some_found : {A : Type 0} (p : A → Bool) (xs : List A) → is_some (find p xs) ≡ list_any p xs
some_found p [] = refl
some_found {A} p (x ∷ xs) = go (p x) (some_found p xs)
  where
    go : (b : Bool) → is_some (find p xs) ≡ list_any p xs → is_some (cond b (Some x) (find p xs)) ≡ (b || list_any p xs)
    go true i = refl
    go false i = i
