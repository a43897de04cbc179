-- Who waits for a file.
use Rattle.std.proofs.Common.{◌≡◌, ℕ, Bool, List, [], ◌∷◌, map, filter, length, refl, ap, ◌∙◌, arith}
use Rattle.std.specs.Prelude.{not, ◌==◌}
use Rattle.std.specs.List.{list_any}
use Rattle.std.proofs.lemmas.Bool.{ne_eqb}
use Rattle.st_tables.proofs.RisingKeys.{any_same, some_in, some_filter, some_map}
use Rattle.st_lock_tables.specs.WaitedFiles.{is_one_of}

some_long : (xs : List ℕ) → not (length xs == 0) ≡ some_in xs
some_long [] = refl
some_long (x ∷ xs) = ap not (ne_eqb (length (x ∷ xs)) 0 (λ (e : length (x ∷ xs) ≡ 0). omega (arith, e)))

pub waited_long : {A : Type 0} (f : A → ℕ) (p : A → Bool) (xs : List A) → not (length (map f (filter p xs)) == 0) ≡ list_any p xs
waited_long f p xs = some_long (map f (filter p xs)) ∙ some_map f (filter p xs) ∙ some_filter p xs

turn : (a b : ℕ) → (a == b) ≡ (b == a)
turn a b = grind arith

-- whichever way the file is compared
pub one_turned : (ks : List ℕ) (i : ℕ) → is_one_of ks i ≡ list_any (λ k. i == k) ks
one_turned ks i = any_same (λ k. k == i) (λ k. i == k) ks (λ k. turn k i)
