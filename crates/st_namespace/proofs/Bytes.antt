-- Two names are compared byte by byte.
use Rattle.std.proofs.Common.{◌≡◌, ℕ, ◌+◌, ◌<◌, ◌≤◌, true, false, List, [], ◌∷◌, length, get_or, drop, refl}
use Rattle.std.specs.Prelude.{nat_lt}
use Rattle.std.proofs.lemmas.Bool.{eq-eqb, ne_eqb}
use Rattle.std.proofs.lemmas.List.{drop_all, drop_more}
use Rattle.st_rules.specs.Names.{name_below, byte_below}

pub below_same : (a b : List ℕ) (i d e : ℕ) → i < length a → i < length b → get_or a i d ≡ get_or b i e → name_below (drop i a) (drop i b) ≡ name_below (drop (i + 1) a) (drop (i + 1) b)
unfolding name_below byte_below
below_same a b i d e l m h = rw (drop_more a i d l, drop_more b i e m, eq-eqb (get_or a i d) (get_or b i e) h) refl

pub below_apart : (a b : List ℕ) (i d e : ℕ) → i < length a → i < length b → (get_or a i d ≡ get_or b i e → ⊥) → name_below (drop i a) (drop i b) ≡ nat_lt (get_or a i d) (get_or b i e)
unfolding name_below byte_below
below_apart a b i d e l m h = rw (drop_more a i d l, drop_more b i e m, ne_eqb (get_or a i d) (get_or b i e) h) refl

pub below_first_ends : (a b : List ℕ) (i : ℕ) → length a ≤ i → i < length b → name_below (drop i a) (drop i b) ≡ true
unfolding name_below
below_first_ends a b i l m = rw (drop_all i a l, drop_more b i 0 m) refl

pub nothing_below : (a : List ℕ) → name_below a [] ≡ false
unfolding name_below
nothing_below [] = refl
nothing_below (x ∷ a) = refl

pub below_second_ends : (a b : List ℕ) (i : ℕ) → length b ≤ i → name_below (drop i a) (drop i b) ≡ false
below_second_ends a b i l = rw (drop_all i b l) (nothing_below (drop i a))
