-- Values that are changed one after another.
use Rattle.std.proofs.Common.{◌≡◌, ℕ, zero, suc, ◌+◌, ◌<◌, ◌≤◌, List, [], ◌∷◌, ◌++◌, length, map, take, drop, refl, sym, ap, ◌∙◌, arith, add-one}
use Rattle.st_tables.specs.Orders.{changed_at}

module _ {V : Type 0} (f : V → V) where
  -- the list so far: those before the place are changed
  abbrev pub changed_to : List V → ℕ → List V
  changed_to xs i = map f (take i xs) ++ drop i xs

  one_more : (xs : List V) (i : ℕ) → i < length xs → changed_at f i (changed_to xs i) ≡ changed_to xs (suc i)
  one_more [] i l = absurd (omega arith)
  one_more (x ∷ xs) zero l = refl
  one_more (x ∷ xs) (suc i) l = ap (λ l. f x ∷ l) (one_more xs i (omega arith))

  pub change_more : (xs : List V) (i : ℕ) → i < length xs → changed_at f i (changed_to xs i) ≡ changed_to xs (i + 1)
  change_more xs i l = one_more xs i l ∙ ap (changed_to xs) (sym (add-one i))

  pub changed_length : (xs : List V) (i : ℕ) → length (changed_to xs i) ≡ length xs
  changed_length [] zero = refl
  changed_length [] (suc i) = refl
  changed_length (x ∷ xs) zero = refl
  changed_length (x ∷ xs) (suc i) = ap suc (changed_length xs i)

  pub changed_all : (xs : List V) (i : ℕ) → length xs ≤ i → changed_to xs i ≡ map f xs
  changed_all [] zero l = refl
  changed_all [] (suc i) l = refl
  changed_all (x ∷ xs) zero l = absurd (omega arith)
  changed_all (x ∷ xs) (suc i) l = ap (λ l. f x ∷ l) (changed_all xs i (omega arith))
