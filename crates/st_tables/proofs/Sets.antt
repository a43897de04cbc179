-- Sets under numbers, when one of them changes or more begin.
use Rattle.std.proofs.Common.{◌≡◌, ℕ, zero, suc, ◌<◌, Bool, true, false, if◌then◌else◌, List, [], ◌∷◌, ◌++◌, length, get_or, set, refl, sym, ap, ◌∙◌, arith}
use Rattle.std.specs.Prelude.{◌==◌, ◌&&◌, ◌||◌, OnErr, OnOk, Result, Ok, Err}
use Rattle.std.proofs.lemmas.Bool.{eqb-true}
use Rattle.std.proofs.lemmas.Option.{slice_get-get_or}
use Rattle.indexmap.specs.IndexSet.{IndexSet}
use Rattle.st_tables.specs.Indexes.{Gains, Keeps, has, members, numbers_in}

next_same : (i n : ℕ) → (suc i == suc n) ≡ (i == n)
next_same i n = grind arith

first_other : (n : ℕ) → (zero == suc n) ≡ false
first_other n = grind arith

next_first : (i : ℕ) → (suc i == zero) ≡ false
next_first i = grind arith

or_none : (b : Bool) → b || false ≡ b
or_none true = refl
or_none false = refl

module _ {S : Type 0} where
  -- a set in the place of another
  set_there : (sets : List (IndexSet ℕ S)) (i n : ℕ) (s : IndexSet ℕ S) → i < length sets → numbers_in (set sets i s) n ≡ (if i == n then s.keys else numbers_in sets n)
  set_there [] i n s l = absurd (omega (arith, l))
  set_there (x ∷ xs) zero zero s l = refl
  set_there (x ∷ xs) zero (suc n) s l = ap (λ b. if b then s.keys else numbers_in xs n) (sym (first_other n))
  set_there (x ∷ xs) (suc i) zero s l = ap (λ b. if b then s.keys else x.keys) (sym (next_first i))
  set_there (x ∷ xs) (suc i) (suc n) s l = set_there xs i n s (omega (arith, l)) ∙ ap (λ b. if b then s.keys else numbers_in xs n) (sym (next_same i n))

  -- an empty set more
  pub one_empty : (sets : List (IndexSet ℕ S)) (n : ℕ) (s : IndexSet ℕ S) → s.keys ≡ [] → numbers_in (sets ++ s ∷ []) n ≡ numbers_in sets n
  one_empty [] zero s e = e
  one_empty [] (suc n) s e = refl
  one_empty (x ∷ xs) zero s e = refl
  one_empty (x ∷ xs) (suc n) s e = one_empty xs n s e

  module _ (sets : List (IndexSet ℕ S)) (i : ℕ) (old s : IndexSet ℕ S) (l : i < length sets) (is : old ≡ get_or sets i old) where
    found : numbers_in sets i ≡ old.keys
    found = ap members (slice_get-get_or sets i old l) ∙ ap (λ (x : IndexSet ℕ S). x.keys) (sym is)

    -- one number more in a set
    pub gains_there : {A E : Type 0} (r : Result A E) (number : ℕ) → OnOk r ((n : ℕ) → has n s.keys ≡ has n old.keys || (number == n)) → OnOk r (Gains i number (numbers_in sets) (numbers_in (set sets i s)))
    gains_there (Err x) number h = tt
    gains_there (Ok x) number h = λ u n. ap (has n) (set_there sets i u s l) ∙ by u n (i == u) refl
      where
        by : (u n : ℕ) (b : Bool) → (i == u) ≡ b → has n (if b then s.keys else numbers_in sets u) ≡ has n (numbers_in sets u) || (b && (number == n))
        by u n true e = h n ∙ ap (λ ks. has n ks || (number == n)) (sym found) ∙ ap (λ j. has n (numbers_in sets j) || (number == n)) (eqb-true i u e)
        by u n false e = sym (or_none (has n (numbers_in sets u)))

    -- the same numbers in a set
    pub keeps_there : {A E : Type 0} (r : Result A E) → OnErr r (s.keys ≡ old.keys) → OnErr r (Keeps (numbers_in sets) (numbers_in (set sets i s)))
    keeps_there (Ok x) h = tt
    keeps_there (Err x) h = λ u n. ap (has n) (set_there sets i u s l) ∙ by u n (i == u) refl
      where
        by : (u n : ℕ) (b : Bool) → (i == u) ≡ b → has n (if b then s.keys else numbers_in sets u) ≡ has n (numbers_in sets u)
        by u n true e = ap (has n) (h ∙ sym found) ∙ ap (λ j. has n (numbers_in sets j)) (eqb-true i u e)
        by u n false e = refl
