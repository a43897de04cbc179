-- A pass over a list: what is done for each of its members, in order.
use Rattle.std.specs.Prelude.{List, [], ◌∷◌}
use Rattle.st_rules.specs.ClientState.{Turn}

-- What is done for one member leads from one turn to another. The list is what is yet to be looked at, so a fold over a pass knows it, and knows how
-- long it is.
pub data Each {A : Type 0} (One : A → Turn → Turn → Type 0) : List A → Turn → Turn → Type 0 where
  Ends : (t : Turn) → Each One [] t t
  Next : (x : A) (xs : List A) (t u v : Turn) → One x t u → Each One xs u v → Each One (x ∷ xs) t v
