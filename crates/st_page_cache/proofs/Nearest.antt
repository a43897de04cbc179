-- The nearest place after another is the first one after it in rising order.
use Rattle.st_lemmas.proofs.Words
use Words.{◌≡◌, ℕ, ◌⊎◌, Bool, true, false, cond, List, [], ◌∷◌, refl, sym, ap, ◌∙◌, subst, inl, inr, ⊎_elim, true≢false, find, ◌&&◌, ◌==◌, Option, Some, None}
use Words.{cases_Bool, eqb-true, and_parts, PageNo}
use Words.Lists.{Has}
use Words.ClientPages.{is_place_after}
use Rattle.st_page_cache.specs.DirtyPlaces.{AreRising, is_before, is_nearer, nearer, nearest, same_place}
use Rattle.st_page_cache.proofs.Lexical.{chained, either_way, one_way}

not_before : (x y : ℕ × PageNo) → (is_before x y ≡ true → ⊥) → is_before x y ≡ false
not_before x y n = ⊎_elim (λ t. absurd (n t)) (λ t. t) (cases_Bool (is_before x y))

not_itself : (x y : ℕ × PageNo) → y ≡ x → is_before y x ≡ false
not_itself x y e = not_before y x (λ t. let s : is_before x x ≡ true = subst (λ z. is_before z x ≡ true) e t in one_way x x s s)

-- the nearest of some places after another: none after it lies before this one
abbrev IsNearest : Option (ℕ × PageNo) → (ℕ × PageNo → Type 0) → Option (ℕ × PageNo) → Type 0
IsNearest after P None = (y : ℕ × PageNo) → P y → is_place_after after y ≡ false
IsNearest after P (Some x) = record { there : P x; behind : is_place_after after x ≡ true; least : (y : ℕ × PageNo) → P y → is_place_after after y ≡ true → is_before y x ≡ false }

same_is : (x y : ℕ × PageNo) → same_place x y ≡ true → x ≡ y
same_is x y h =
    let p = and_parts (x.0 == y.0) (x.1.0 == y.1.0) h in
    let a : x.0 ≡ y.0 = eqb-true x.0 y.0 p.0 in
    let b : x.1.0 ≡ y.1.0 = eqb-true x.1.0 y.1.0 p.1 in
    λ i. (a i, record { 0 = b i })

module _ (after : Option (ℕ × PageNo)) where
  changed : (P Q : ℕ × PageNo → Type 0) → ((y : ℕ × PageNo) → P y → Q y) → ((y : ℕ × PageNo) → Q y → P y) → (o : Option (ℕ × PageNo)) → IsNearest after P o → IsNearest after Q o
  changed P Q f g None n = λ y m. n y (g y m)
  changed P Q f g (Some x) n = record { there = f x n.there; behind = n.behind; least = λ y m t. n.least y (g y m) t }

  one_nearest : (P : ℕ × PageNo → Type 0) (o q : Option (ℕ × PageNo)) → IsNearest after P o → IsNearest after P q → o ≡ q
  one_nearest P None None n m = refl
  one_nearest P None (Some y) n m = absurd (true≢false (sym m.behind ∙ n y m.there))
  one_nearest P (Some x) None n m = absurd (true≢false (sym n.behind ∙ m x n.there))
  one_nearest P (Some x) (Some y) n m =
      ap Some
      (⊎_elim (λ t. same_is x y t)
      (λ t. absurd (true≢false (sym (either_way x y (n.least y m.there m.behind) t) ∙ m.least x n.there n.behind)))
      (cases_Bool (same_place x y)))

  -- One more place is seen.
  module _ (P : ℕ × PageNo → Type 0) (x : ℕ × PageNo) where
    passed_by : (best : Option (ℕ × PageNo)) → is_place_after after x ≡ false → IsNearest after P best → IsNearest after (λ y. (y ≡ x) ⊎ P y) best
    passed_by None b n = skip
      where
        skip : (y : ℕ × PageNo) → (y ≡ x) ⊎ P y → is_place_after after y ≡ false
        skip y (inl e) = ap (is_place_after after) e ∙ b
        skip y (inr m) = n y m
    passed_by (Some z) b n = record { there = inr n.there; behind = n.behind; least = skip }
      where
        skip : (y : ℕ × PageNo) → (y ≡ x) ⊎ P y → is_place_after after y ≡ true → is_before y z ≡ false
        skip y (inl e) t = absurd (true≢false (sym t ∙ ap (is_place_after after) e ∙ b))
        skip y (inr m) t = n.least y m t

    taken : (best : Option (ℕ × PageNo)) → is_place_after after x ≡ true → is_nearer best x ≡ true → IsNearest after P best → IsNearest after (λ y. (y ≡ x) ⊎ P y) (Some x)
    taken None b c n = record { there = inl refl; behind = b; least = skip }
      where
        skip : (y : ℕ × PageNo) → (y ≡ x) ⊎ P y → is_place_after after y ≡ true → is_before y x ≡ false
        skip y (inl e) t = not_itself x y e
        skip y (inr m) t = absurd (true≢false (sym t ∙ n y m))
    taken (Some z) b c n = record { there = inl refl; behind = b; least = skip }
      where
        skip : (y : ℕ × PageNo) → (y ≡ x) ⊎ P y → is_place_after after y ≡ true → is_before y x ≡ false
        skip y (inl e) t = not_itself x y e
        skip y (inr m) t = not_before y x (λ s. absurd (true≢false (sym (chained y x z s c) ∙ n.least y m t)))

    farther : (best : Option (ℕ × PageNo)) → is_nearer best x ≡ false → IsNearest after P best → IsNearest after (λ y. (y ≡ x) ⊎ P y) best
    farther None c n = absurd (true≢false c)
    farther (Some z) c n = record { there = inr n.there; behind = n.behind; least = skip }
      where
        skip : (y : ℕ × PageNo) → (y ≡ x) ⊎ P y → is_place_after after y ≡ true → is_before y z ≡ false
        skip y (inl e) t = ap (λ w. is_before w z) e ∙ c
        skip y (inr m) t = n.least y m t

    one_more : (best : Option (ℕ × PageNo)) → IsNearest after P best → IsNearest after (λ y. (y ≡ x) ⊎ P y) (nearer after best x)
    one_more best n = go (is_place_after after x) (is_nearer best x) refl refl
      where
        go : (b c : Bool) → is_place_after after x ≡ b → is_nearer best x ≡ c → IsNearest after (λ y. (y ≡ x) ⊎ P y) (cond (b && c) (Some x) best)
        go true true b c = taken best b c n
        go true false b c = farther best c n
        go false c b d = passed_by best b n

  walked : (P : ℕ × PageNo → Type 0) (xs : List (ℕ × PageNo)) (best : Option (ℕ × PageNo)) → IsNearest after P best → IsNearest after (λ y. Has y xs ⊎ P y) (nearest after best xs)
  walked P [] best n = changed P (λ y. Has y [] ⊎ P y) (λ y m. inr m) none best n
    where
      none : (y : ℕ × PageNo) → Has y [] ⊎ P y → P y
      none y (inl m) = elim m [ ]
      none y (inr m) = m
  walked P (x ∷ xs) best n =
      changed (λ y. Has y xs ⊎ ((y ≡ x) ⊎ P y)) (λ y. ((y ≡ x) ⊎ Has y xs) ⊎ P y) there back (nearest after (nearer after best x) xs)
      (walked (λ y. (y ≡ x) ⊎ P y) xs (nearer after best x) (one_more P x best n))
    where
      there : (y : ℕ × PageNo) → Has y xs ⊎ ((y ≡ x) ⊎ P y) → ((y ≡ x) ⊎ Has y xs) ⊎ P y
      there y (inl m) = inl (inr m)
      there y (inr (inl e)) = inl (inl e)
      there y (inr (inr m)) = inr m

      back : (y : ℕ × PageNo) → ((y ≡ x) ⊎ Has y xs) ⊎ P y → Has y xs ⊎ ((y ≡ x) ⊎ P y)
      back y (inl (inl e)) = inr (inl e)
      back y (inl (inr m)) = inl m
      back y (inr m) = inr (inr m)

  -- The first one after it in rising order.
  first_behind : (xs : List (ℕ × PageNo)) → AreRising xs → IsNearest after (λ y. Has y xs) (find (is_place_after after) xs)
  first_behind [] r = λ y m. elim m [ ]
  first_behind (x ∷ xs) r = go (is_place_after after x) refl (first_behind xs r.rest)
    where
      skip : (y : ℕ × PageNo) → (y ≡ x) ⊎ Has y xs → is_place_after after y ≡ true → is_before y x ≡ false
      skip y (inl e) t = not_itself x y e
      skip y (inr m) t = not_before y x (λ s. one_way y x s (r.first y m))

      turned : (o : Option (ℕ × PageNo)) → IsNearest after (λ y. (y ≡ x) ⊎ Has y xs) o → IsNearest after (λ y. Has y (x ∷ xs)) o
      turned o n = changed (λ y. (y ≡ x) ⊎ Has y xs) (λ y. Has y (x ∷ xs)) (λ y m. m) (λ y m. m) o n

      go : (b : Bool) → is_place_after after x ≡ b → IsNearest after (λ y. Has y xs) (find (is_place_after after) xs) → IsNearest after (λ y. Has y (x ∷ xs)) (cond b (Some x) (find (is_place_after after) xs))
      go true q n = record { there = inl refl; behind = q; least = skip }
      go false q n = turned (find (is_place_after after) xs) (passed_by (λ y. Has y xs) x (find (is_place_after after) xs) q n)

  -- so the nearest of places is the first after it of the same places in rising order
  pub nearest_is : (xs ys : List (ℕ × PageNo)) → AreRising ys → ((x : ℕ × PageNo) → Has x xs → Has x ys) → ((x : ℕ × PageNo) → Has x ys → Has x xs) → nearest after None xs ≡ find (is_place_after after) ys
  nearest_is xs ys r f g =
      one_nearest (λ y. Has y ys) (nearest after None xs) (find (is_place_after after) ys)
      (changed (λ y. Has y xs ⊎ ⊥) (λ y. Has y ys) there (λ y m. inl (g y m)) (nearest after None xs) (walked (λ y. ⊥) xs None (λ y m. elim m [ ])))
      (first_behind ys r)
    where
      there : (y : ℕ × PageNo) → Has y xs ⊎ ⊥ → Has y ys
      there y (inl m) = f y m
      there y (inr m) = elim m [ ]
