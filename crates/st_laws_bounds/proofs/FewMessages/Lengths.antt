-- Lengths of lists: of rising keys, and of a list with one member put in its place.
use Rattle.st_lemmas.proofs.Words
use Words.{◌≡◌, ℕ, ◌+◌, ◌≤◌, ◌<◌, ◌⊎◌, Bool, true, false, List, [], ◌∷◌, refl, inl, inr, arith, if◌then◌else◌, length, filter, not}
use Words.Keys.{put, rising}
use Words.Lists.{Has, Rises}
use Words.Lengths.{with_key_length}

-- rising keys are no more than the keys
pub rising_length : (ks : List ℕ) → length (rising ks) ≤ length ks
unfolding rising
rising_length [] = omega arith
rising_length (k ∷ ks) = let a = with_key_length k (rising ks) in let b = rising_length ks in omega (arith, a, b)

-- rising keys up to 16 and above n are no more than what is between
few_between : (n : ℕ) (xs : List ℕ) → n ≤ 16 → ((x : ℕ) → Has x xs → n < x) → ((x : ℕ) → Has x xs → x ≤ 16) → Rises xs → length xs + n ≤ 16
few_between n [] l f g r = omega (arith, l)
few_between n (x ∷ xs) l f g r =
    let a = few_between x xs (g x (inl refl)) r.first (λ y i. g y (inr i)) r.rest in let b = f x (inl refl) in omega (arith, a, b)

-- rising keys from 1 to 16
pub few_rising : (xs : List ℕ) → ((x : ℕ) → Has x xs → 1 ≤ x) → ((x : ℕ) → Has x xs → x ≤ 16) → Rises xs → length xs ≤ 16
few_rising xs f g r = let z = few_between 0 xs (omega arith) (λ x i. let a = f x i in omega (arith, a)) g r in omega (arith, z)

-- a member is put in the place of another one, or last
put_length : {A : Type 0} (p : A → Bool) (x : A) (xs : List A) → (length (put p x xs) ≡ length xs) ⊎ ((length (put p x xs) ≡ 1 + length xs) × (length (filter (λ y. not (p y)) xs) ≡ length xs))
unfolding put
put_length p x [] = inr (omega arith, refl)
put_length {A} p x (y ∷ ys) = go (p y) (put_length p x ys)
  where
    go : (b : Bool) → (length (put p x ys) ≡ length ys) ⊎ ((length (put p x ys) ≡ 1 + length ys) × (length (filter (λ y. not (p y)) ys) ≡ length ys)) →
        (length (if b then x ∷ ys else y ∷ put p x ys) ≡ length (y ∷ ys)) ⊎ ((length (if b then x ∷ ys else y ∷ put p x ys) ≡ 1 + length (y ∷ ys)) × (length (if not b then y ∷ filter (λ y. not (p y)) ys else filter (λ y. not (p y)) ys) ≡ length (y ∷ ys)))
    go true h = inl (omega arith)
    go false (inl e) = inl (omega (arith, e))
    go false (inr e) = let a = e.0 in let b = e.1 in inr (omega (arith, a), omega (arith, b))

-- so there are at most 64 if there were, and if there are fewer others
pub put_few : {A : Type 0} (p : A → Bool) (x : A) (xs : List A) → length xs ≤ 64 → length (filter (λ y. not (p y)) xs) < 64 → length (put p x xs) ≤ 64
put_few p x xs l f = go (put_length p x xs)
  where
    go : (length (put p x xs) ≡ length xs) ⊎ ((length (put p x xs) ≡ 1 + length xs) × (length (filter (λ y. not (p y)) xs) ≡ length xs)) → length (put p x xs) ≤ 64
    go (inl e) = omega (arith, e, l)
    go (inr e) = let a = e.0 in let b = e.1 in omega (arith, a, b, f)

-- one member fewer if one of them is picked
pub one_less : {A : Type 0} (p : A → Bool) (xs : List A) (x : A) → Has x xs → p x ≡ true → 1 + length (filter (λ y. not (p y)) xs) ≤ length xs
one_less p [] x h e = absurd h
one_less {A} p (y ∷ ys) x h e = go (p y) refl h (fewer ys) (λ i. one_less p ys x i e)
  where
    fewer : (zs : List A) → length (filter (λ y. not (p y)) zs) ≤ length zs
    fewer [] = omega arith
    fewer (z ∷ zs) = by (p z) (fewer zs)
      where
        by : (b : Bool) → length (filter (λ y. not (p y)) zs) ≤ length zs → length (if not b then z ∷ filter (λ y. not (p y)) zs else filter (λ y. not (p y)) zs) ≤ length (z ∷ zs)
        by true h = omega (arith, h)
        by false h = omega (arith, h)

    go : (b : Bool) → p y ≡ b → (x ≡ y) ⊎ Has x ys → length (filter (λ y. not (p y)) ys) ≤ length ys → (Has x ys → 1 + length (filter (λ y. not (p y)) ys) ≤ length ys) →
        1 + length (if not b then y ∷ filter (λ y. not (p y)) ys else filter (λ y. not (p y)) ys) ≤ length (y ∷ ys)
    go true f h l k = omega (arith, l)
    go false f (inl i) l k = let z = Rattle.std.proofs.Common.ap p i in absurd (clash z f e)
      where
        clash : p x ≡ p y → p y ≡ false → p x ≡ true → ⊥
        clash a b c = cc
    go false f (inr i) l k = let z = k i in omega (arith, z)
