-- The list of the rows beside the entries of the map that has them by their places.
use Rattle.std.proofs.Common.{◌≡◌, ℕ, zero, suc, ◌<◌, Bool, true, false, List, [], ◌∷◌, ◌++◌, map, length, refl, sym, ap, subst, ◌∙◌, ⊎_elim, true≢false, arith}
use Rattle.std.specs.Prelude.{nat_eq, Option, Some, None, ◌==◌, ◌||◌}
use Rattle.std.specs.Option.{option_to_list}
use Rattle.std.specs.List.{IsDistinct, AllByRecursion, list_any}
use Rattle.std.specs.Map.{keys_of, values_of}
use Rattle.std.specs.Cmp.{IsEquivalence}
use Rattle.std.proofs.lemmas.Bool.{cases_Bool, or_cases, or_left, or_right, eq-eqb, ne_eqb, cond-true, cond-false}
use Rattle.std.proofs.lemmas.List.{map-append}
use Rattle.std.proofs.lemmas.Map.Keys.{IsDistinct-push}
use Rattle.st_tables.specs.declared.keys.Key.{Key}
use Rattle.st_tables.specs.Tables.{listed, row_at, same_key, IsTable}
use Rattle.st_tables.proofs.RowLists.{passing, passes_at, none_pass, listed_more, listed_empty}
use Rattle.st_tables.proofs.Places.{key_is, same_is}

same_bools : (a b : Bool) → (a ≡ true → b ≡ true) → (b ≡ true → a ≡ true) → a ≡ b
same_bools true b f g = sym (f refl)
same_bools false b f g = ⊎_elim (λ t. g t ∙ sym t) (λ e. sym e) (cases_Bool b)

module _ {V : Type 0} where
  -- a key that no entry has
  none_at : (x : ℕ) (es : List (ℕ × V)) → AllByRecursion (λ y. nat_eq x y ≡ false) (keys_of es) → row_at es x ≡ None
  none_at x [] a = refl
  none_at x (e ∷ es) a = cond-false (x == e.0) (Some e.1) (row_at es x) a.0 ∙ none_at x es a.1

  -- an entry that passes is found at its key
  pub at_its_key : (q : V → Bool) (es : List (ℕ × V)) → IsDistinct nat_eq (keys_of es) → list_any q (values_of es) ≡ true → (i : ℕ) × ((v : V) × ((row_at es i ≡ Some v) × (q v ≡ true)))
  unfolding IsDistinct
  at_its_key q [] d h = absurd (true≢false (sym h))
  at_its_key q (e ∷ es) d h =
      ⊎_elim
      (λ t. (e.0, (e.1, (cond-true (e.0 == e.0) (Some e.1) (row_at es e.0) (eq-eqb e.0 e.0 refl), t))))
      (λ t.
      let r = at_its_key q es d.1 t in
      (r.0, (r.1.0, (cond-false (r.0 == e.0) (Some e.1) (row_at es r.0) (ne_eqb r.0 e.0 (λ (z : r.0 ≡ e.0). other r.0 r.1.0 r.1.1.0 z)) ∙ r.1.1.0, r.1.1.1))))
      (or_cases (q e.1) (list_any q (values_of es)) h)
    where
      other : (i : ℕ) (v : V) → row_at es i ≡ Some v → i ≡ e.0 → ⊥
      other i v f z = let w : Some v ≡ None = sym f ∙ ap (row_at es) z ∙ none_at e.0 es d.0 in cc

  pub found_passes : (q : V → Bool) (i : ℕ) (v : V) (es : List (ℕ × V)) → row_at es i ≡ Some v → q v ≡ true → list_any q (values_of es) ≡ true
  found_passes q i v [] f t = cc
  found_passes q i v (e ∷ es) f t =
      ⊎_elim
      (λ s. let w : Some e.1 ≡ Some v = sym (cond-true (i == e.0) (Some e.1) (row_at es i) s) ∙ f in let z : e.1 ≡ v = cc in or_left (q e.1) (list_any q (values_of es)) (ap q z ∙ t))
      (λ s. or_right (q e.1) (list_any q (values_of es)) (found_passes q i v es (sym (cond-false (i == e.0) (Some e.1) (row_at es i) s) ∙ f) t))
      (cases_Bool (i == e.0))

  -- a row passes if a value does
  pub any_value : (q : V → Bool) (n : ℕ) (es : List (ℕ × V)) → IsDistinct nat_eq (keys_of es) → ((i : ℕ) (v : V) → row_at es i ≡ Some v → i < n) → list_any q (listed n (row_at es)) ≡ list_any q (values_of es)
  any_value q n es d l =
      same_bools (list_any q (listed n (row_at es))) (list_any q (values_of es))
      (λ h. let r = passing q n (row_at es) h in found_passes q r.0 r.1.0 es r.1.1.1.0 r.1.1.1.1)
      (λ h. let r = at_its_key q es d h in passes_at q r.1.0 r.0 n (row_at es) (l r.0 r.1.0 r.1.1.0) r.1.1.0 r.1.1.1)

  -- as many rows as entries
  pub listed_length : (n : ℕ) (es : List (ℕ × V)) → IsDistinct nat_eq (keys_of es) → ((i : ℕ) (v : V) → row_at es i ≡ Some v → i < n) → length (listed n (row_at es)) ≡ length es
  unfolding IsDistinct
  listed_length n [] d l = ap length (listed_empty n (row_at []) (λ i. refl))
  listed_length n (e ∷ es) d l =
      listed_more e.0 n e.1 (row_at es) (row_at (e ∷ es)) (l e.0 e.1 (cond-true (e.0 == e.0) (Some e.1) (row_at es e.0) (eq-eqb e.0 e.0 refl))) (none_at e.0 es d.0) (λ i. refl)
      ∙ ap suc (listed_length n es d.1 (λ i v f. l i v (cond-false (i == e.0) (Some e.1) (row_at es i) (ne_eqb i e.0 (λ (z : i ≡ e.0). other i v f z)) ∙ f)))
    where
      other : (i : ℕ) (v : V) → row_at es i ≡ Some v → i ≡ e.0 → ⊥
      other i v f z = let w : Some v ≡ None = sym f ∙ ap (row_at es) z ∙ none_at e.0 es d.0 in cc

  any_map : (key : V → Key) (k : Key) (xs : List V) → list_any (same_key k) (map key xs) ≡ list_any (λ v. same_key k (key v)) xs
  any_map key k [] = refl
  any_map key k (x ∷ xs) = ap (λ b. same_key k (key x) || b) (any_map key k xs)

append_nil : {A : Type 0} (xs : List A) → xs ++ [] ≡ xs
append_nil [] = refl
append_nil (x ∷ xs) = ap (λ l. x ∷ l) (append_nil xs)

same_key_symm : (a b : Key) → same_key a b ≡ same_key b a
same_key_symm a b = same_bools (same_key a b) (same_key b a) (turn a b) (turn b a)
  where
    turn : (a b : Key) → same_key a b ≡ true → same_key b a ≡ true
    turn a b h = ap (λ k. same_key k a) (sym (key_is a b h)) ∙ same_is a

pub key_equality : IsEquivalence same_key
key_equality = record { refl = same_is; symm = same_key_symm; congr = λ a b k h. ap (λ x. same_key x k) (key_is a b h) }

module _ {V : Type 0} (key : V → Key) (m : ℕ) (at : ℕ → Option V) (place : Key → Option ℕ) (t : IsTable key m at place) where
  distinct_push : (n : ℕ) (o : Option V) → at n ≡ o → IsDistinct same_key (map key (listed n at)) → IsDistinct same_key (map key (listed n at ++ option_to_list o))
  distinct_push n None e d = subst (λ l. IsDistinct same_key (map key l)) (sym (append_nil (listed n at))) d
  distinct_push n (Some v) e d =
      subst (IsDistinct same_key) (sym (map-append key (listed n at) (v ∷ [])))
      (IsDistinct-push key_equality (map key (listed n at)) (key v) d (any_map key (key v) (listed n at) ∙ none_pass (λ w. same_key (key v) (key w)) n at other))
    where
      other : (j : ℕ) (w : V) → j < n → at j ≡ Some w → same_key (key v) (key w) ≡ false
      other j w l f =
          ⊎_elim
          (λ h. let z : Some n ≡ Some j = sym (t.placed n v e).1 ∙ ap place (key_is (key v) (key w) h) ∙ (t.placed j w f).1 in let y : n ≡ j = cc in absurd (omega arith))
          (λ h. h)
          (cases_Bool (same_key (key v) (key w)))

  -- no two rows have one key
  pub distinct_keys : (n : ℕ) → IsDistinct same_key (map key (listed n at))
  unfolding listed IsDistinct
  distinct_keys zero = tt
  distinct_keys (suc n) = distinct_push n (at n) refl (distinct_keys n)
