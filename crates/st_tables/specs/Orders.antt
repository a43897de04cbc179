-- The values of a slab in an order.
use Rattle.std.specs.Prelude.{◌≡◌, ℕ, zero, suc, ◌==◌, Bool, true, List, [], ◌∷◌, filter_map, is_some}
use Rattle.std.specs.List.{IsDistinct, list_all}
use Rattle.slab.specs.Slab.{Slab, get}

-- one key
abbrev pub same_number : ℕ → ℕ → Bool
same_number a b = a == b

-- the values of these keys
abbrev pub in_order : {V : Type 0} → Slab V → List ℕ → List V
in_order s order = filter_map (get s) order

-- each key has a value, and none comes twice
pub record IsOrder {V : Type 0} (s : Slab V) (order : List ℕ) : Type 0 where
  pub filled : list_all (λ k. is_some (get s k)) order ≡ true
  pub distinct : IsDistinct same_number order

-- the value at a place is changed
abbrev pub changed_at : {A : Type 0} → (A → A) → ℕ → List A → List A
changed_at f n [] = []
changed_at f zero (x ∷ xs) = f x ∷ xs
changed_at f (suc n) (x ∷ xs) = x ∷ changed_at f n xs
