-- Whether a directory lies under another one, step by step.
use Rattle.std.proofs.Common.{◌≡◌, ℕ, zero, suc, ◌+◌, ◌-◌, ◌<◌, ◌≤◌, Bool, true, false, Some, None, arith, refl, sym, ap}
use Rattle.std.specs.Prelude.{◌==◌, Option}
use Rattle.std.specs.Option.{option_map}
use Rattle.std.proofs.lemmas.Bool.{eq-eqb, ne_eqb}
use Rattle.st_rules.specs.declared.names.NameEntry.{NameEntry}
use Rattle.st_rules.specs.Names.{Names, climb, is_under_in, entry_of_ino}
use Rattle.st_namespace.specs.StoredEntries.{dir_of}

climb_none : (f : ℕ → Bool) (o : Option NameEntry) → None ≡ option_map dir_of o → climb f o ≡ false
climb_none f None h = refl
climb_none f (Some e) h = cc

climb_some : (f : ℕ → Bool) (o : Option NameEntry) (d : ℕ) → Some d ≡ option_map dir_of o → climb f o ≡ f d
climb_some f None d h = cc
climb_some f (Some e) d h = let z : d ≡ e.dir = cc in ap f (sym z)

module _ (n : Names) (top : ℕ) where
  pub under_top : (steps at : ℕ) → at ≡ top → is_under_in n top steps at ≡ true
  unfolding is_under_in
  under_top zero at e = eq-eqb at top e
  under_top (suc steps) at e = rw (eq-eqb at top e) refl

  pub under_lost : (steps i at : ℕ) → i < steps → (at ≡ top → ⊥) → None ≡ option_map dir_of (entry_of_ino n at) → is_under_in n top (steps - i) at ≡ false
  unfolding is_under_in
  under_lost steps i at l e h = let s : steps - i ≡ suc (steps - (i + 1)) = omega arith in rw (s, ne_eqb at top e) (climb_none (is_under_in n top (steps - (i + 1))) (entry_of_ino n at) h)

  pub under_climbs : (steps i at d : ℕ) → i < steps → (at ≡ top → ⊥) → Some d ≡ option_map dir_of (entry_of_ino n at) → is_under_in n top (steps - i) at ≡ is_under_in n top (steps - (i + 1)) d
  unfolding is_under_in
  under_climbs steps i at d l e h = let s : steps - i ≡ suc (steps - (i + 1)) = omega arith in rw (s, ne_eqb at top e) (climb_some (is_under_in n top (steps - (i + 1))) (entry_of_ino n at) d h)

  pub under_ends : (steps i at : ℕ) → steps ≤ i → is_under_in n top (steps - i) at ≡ (at == top)
  unfolding is_under_in
  under_ends steps i at l = let s : steps - i ≡ 0 = omega arith in rw s refl
