-- A change of the one row that has a key.
use Rattle.std.proofs.Common.{◌≡◌, ℕ, suc, ◌+◌, Bool, true, false, ◌||◌, ◌==◌, not, cond, List, [], ◌∷◌, set, Some, None, arith, refl, sym, ap, ◌∙◌}
use Rattle.std.specs.Prelude.{map, slice_get}
use Rattle.std.specs.List.{list_any, position, position_or_len}
use Rattle.std.proofs.lemmas.Bool.{eqb-true, and_parts, not-true}
use Rattle.st_rules.specs.ServerInvariants.{are_once}
use Rattle.st_sessions.proofs.Once.{has_key, same_key}
use Rattle.st_tables.proofs.FirstPlaces.{place_some, missing}

-- the row is changed if it has this key
abbrev pub changed : {A : Type 0} → (A → ℕ) → ℕ → (A → A) → A → A
changed key n f x = cond (key x == n) (f x) x

-- no row has the key
nothing : {A : Type 0} (key : A → ℕ) (n : ℕ) (f : A → A) (xs : List A) → list_any (has_key key n) xs ≡ false → map (changed key n f) xs ≡ xs
nothing key n f [] e = refl
nothing {A} key n f (x ∷ xs) e = go (key x == n) refl e (nothing key n f xs)
  where
    go : (b : Bool) → (key x == n) ≡ b → (b || list_any (has_key key n) xs) ≡ false →
        (list_any (has_key key n) xs ≡ false → map (changed key n f) xs ≡ xs) → cond b (f x) x ∷ map (changed key n f) xs ≡ x ∷ xs
    go true q h i = cc
    go false q h i = ap (λ l. x ∷ l) (i h)

-- the first row that has the key is the one
there : {A : Type 0} (key : A → ℕ) (n : ℕ) (f : A → A) (xs : List A) (s : A) → are_once (same_key key) xs ≡ true →
    slice_get xs (position_or_len (has_key key n) xs) ≡ Some s → map (changed key n f) xs ≡ set xs (position_or_len (has_key key n) xs) (f s)
unfolding are_once
there key n f [] s h e = cc
there {A} key n f (x ∷ xs) s h e =
    go (key x == n) refl (and_parts (not (list_any (same_key key x) xs)) (are_once (same_key key) xs) h) e (there key n f xs s)
  where
    go : (b : Bool) → (key x == n) ≡ b → (not (list_any (same_key key x) xs) ≡ true) × (are_once (same_key key) xs ≡ true) →
        slice_get (x ∷ xs) (cond (not b) (1 + position_or_len (has_key key n) xs) 0) ≡ Some s →
        (are_once (same_key key) xs ≡ true → slice_get xs (position_or_len (has_key key n) xs) ≡ Some s →
        map (changed key n f) xs ≡ set xs (position_or_len (has_key key n) xs) (f s)) →
        cond b (f x) x ∷ map (changed key n f) xs ≡ set (x ∷ xs) (cond (not b) (1 + position_or_len (has_key key n) xs) 0) (f s)
    go true q o g i =
        let same : x ≡ s = cc in
        let none : list_any (has_key key n) xs ≡ false = ap (λ (m : ℕ). list_any (has_key key m) xs) (sym (eqb-true (key x) n q)) ∙ not-true _ o.0 in
        let rest : map (changed key n f) xs ≡ xs = nothing key n f xs none in
        cc
    go false q o g i =
        let e : 1 + position_or_len (has_key key n) xs ≡ suc (position_or_len (has_key key n) xs) = omega arith in
        rw e (ap (λ l. x ∷ l) (i o.1 (rw e at g)))

pub change_there : {A : Type 0} (key : A → ℕ) (n : ℕ) (f : A → A) (xs : List A) (i : ℕ) (s : A) →
    are_once (same_key key) xs ≡ true → Some i ≡ position (has_key key n) xs → slice_get xs i ≡ Some s → map (changed key n f) xs ≡ set xs i (f s)
change_there key n f xs i s h e g =
    let q : i ≡ position_or_len (has_key key n) xs = place_some (has_key key n) xs i e in
    there key n f xs s h (ap (slice_get xs) (sym q) ∙ g) ∙ ap (λ (j : ℕ). set xs j (f s)) (sym q)

pub change_nowhere : {A : Type 0} (key : A → ℕ) (n : ℕ) (f : A → A) (xs : List A) → None ≡ position (has_key key n) xs → map (changed key n f) xs ≡ xs
change_nowhere key n f xs e = nothing key n f xs (missing (has_key key n) xs e)
