-- The names at which a link was attached, if it tells them.
use Rattle.std.specs.Prelude.{◌≡◌, ℕ, List, [], ◌∷◌, ◌++◌, ◌⊎◌}
use Rattle.std.specs.declared.option.Option.{Option}
use Rattle.std.specs.declared.option.Option.TheVariants.{None, Some}

-- one name more was called
abbrev pub Attaches : Option (List (List ℕ)) → Option (List (List ℕ)) → List ℕ → Type 0
Attaches None new name = new ≡ None
Attaches (Some names) new name = new ≡ Some (names ++ name ∷ [])

-- one name more was called, or is not told
abbrev pub MayAttach : Option (List (List ℕ)) → Option (List (List ℕ)) → List ℕ → Type 0
MayAttach old new name = Attaches old new name ⊎ (new ≡ old)
