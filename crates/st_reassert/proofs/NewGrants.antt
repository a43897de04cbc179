-- Rows of which none has a new grant number.
use Rattle.std.proofs.Common.{◌≡◌, Bool, true, false, cond, List, [], ◌∷◌, refl}
use Rattle.std.specs.Prelude.{find, not, Some, None, ◌&&◌}
use Rattle.std.specs.List.{list_all}

module _ {A : Type 0} (p : A → Bool) where
  none_by : (x : A) (xs : List A) (b : Bool) → p x ≡ b → (find (λ y. not (p y)) xs ≡ None → list_all p xs ≡ true) → cond (not b) (Some x) (find (λ y. not (p y)) xs) ≡ None → b && list_all p xs ≡ true
  none_by x xs true q h e = h e
  none_by x xs false q h e = cc

  -- if none fails a test, all pass it
  pub none_fails : (xs : List A) → find (λ x. not (p x)) xs ≡ None → list_all p xs ≡ true
  none_fails [] e = refl
  none_fails (x ∷ xs) e = none_by x xs (p x) refl (none_fails xs) e
