-- Members of a list, and lists that rise.
use Rattle.std.specs.Prelude.{◌≡◌, ◌⊎◌, ℕ, ◌<◌, List, [], ◌∷◌}

-- a member of a list
abbrev pub Has : {A : Type 0} → A → List A → Type 0
Has x [] = ⊥
Has x (y ∷ ys) = (x ≡ y) ⊎ Has x ys

-- a list that rises: each number is below all that follow it
abbrev pub Rises : List ℕ → Type 0
Rises [] = Unit {0}
Rises (x ∷ xs) = record { first : (y : ℕ) → Has y xs → x < y; rest : Rises xs }
