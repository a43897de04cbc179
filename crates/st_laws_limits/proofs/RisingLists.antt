-- A list that rises is no longer than a list that has its members.
use Rattle.st_lemmas.proofs.Words
use Words.{◌≡◌, ◌≤◌, ◌+◌, ℕ, ◌==◌, Bool, true, false, not, List, [], ◌∷◌, length, filter, refl, sym, ap, inl, inr, arith, if◌then◌else◌, ne_eqb, eq-eqb}
use Words.Lists.{Has, Rises}
use Words.Tables.{has_filter_in}
use Rattle.st_lemmas.proofs.Tests.{filtered_no_longer}

-- without a number that is there, a list is shorter
shorter : (x : ℕ) (ys : List ℕ) → Has x ys → length (filter (λ z. not (z == x)) ys) + 1 ≤ length ys
shorter x [] h = absurd h
shorter x (y ∷ ys) (inl e) = go (y == x) (eq-eqb y x (sym e)) (filtered_no_longer (λ z. not (z == x)) ys)
  where
    go : (b : Bool) → b ≡ true → length (filter (λ z. not (z == x)) ys) ≤ length ys →
        length (if not b then y ∷ filter (λ z. not (z == x)) ys else filter (λ z. not (z == x)) ys) + 1 ≤ length (y ∷ ys)
    go true q l = omega (arith, l)
    go false q l = cc q
shorter x (y ∷ ys) (inr h) = go (y == x) (shorter x ys h)
  where
    go : (b : Bool) → length (filter (λ z. not (z == x)) ys) + 1 ≤ length ys →
        length (if not b then y ∷ filter (λ z. not (z == x)) ys else filter (λ z. not (z == x)) ys) + 1 ≤ length (y ∷ ys)
    go true l = omega (arith, l)
    go false l = omega (arith, l)

pub no_longer : (xs ys : List ℕ) → Rises xs → ((x : ℕ) → Has x xs → Has x ys) → length xs ≤ length ys
no_longer [] ys r f = omega arith
no_longer (x ∷ xs) ys r f =
    let a = shorter x ys (f x (inl refl)) in
    let b = no_longer xs (filter (λ z. not (z == x)) ys) r.rest
    (λ y h. has_filter_in (λ z. not (z == x)) ys y (f y (inr h)) (ap not (ne_eqb y x (λ e. let l = r.first y h in omega (arith, l, e))))) in
    omega (arith, a, b)
