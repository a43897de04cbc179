-- What holds of a value, if there is one.
use Rattle.std.specs.Prelude.{Option, Some, None, ⊤}

abbrev pub OnSome : {A : Type 0} → (A → Type 0) → Option A → Type 0
OnSome P None = ⊤
OnSome P (Some x) = P x
