-- Births that were given and have no page any more.
use Rattle.std.proofs.Common.{◌≡◌, ℕ, zero, suc, ◌+◌, ◌-◌, ◌<◌, ◌≤◌, List, [], ◌∷◌, ◌++◌, length, arith, refl, sym, ap, ◌∙◌, ⊎_elim}
use Rattle.std.specs.Prelude.{None, Some}
use Rattle.std.specs.Option.{option_to_list}
use Rattle.std.specs.Map.{keys_of}
use Rattle.std.specs.List.Sorted.{IsStrictlySortedBy}
use Rattle.std.proofs.lemmas.Bool.{cases_Bool}
use Rattle.st_rules.specs.declared.extents.Extent.{Extent}
use Rattle.st_tables.specs.Tables.{listed}
use Rattle.st_extents.specs.declared.run_map.Run.{Run}
use Rattle.st_extents.specs.Runs.{AreKept, IsRunTable, RunKey, extent_under, has_birth, rows_of, run_at, run_order}
use Rattle.st_extents.proofs.RunOrder.{birth_in}
use Rattle.st_extents.proofs.RunsFound.{under_none}

append_nothing : (xs : List Extent) → xs ++ [] ≡ xs
append_nothing [] = refl
append_nothing (x ∷ xs) = ap (λ l. x ∷ l) (append_nothing xs)

module _ (es : List (RunKey × Run)) (sorted : IsStrictlySortedBy run_order (keys_of es)) (n : ℕ) (T : AreKept n (run_at es)) where
  -- nothing is under a birth that was not given
  none_past : (b : ℕ) → n < b → extent_under es b ≡ None
  none_past b l = under_none es sorted b (λ k r h. ⊎_elim
      (λ t. let a = birth_in b (k, r) t in let g = (T.given k r h).1 in absurd (omega (arith, a.1, g, l)))
      (λ f. f)
      (cases_Bool (has_birth b (k, r))))

  rows_past : (d : ℕ) → listed (d + (n + 1)) (extent_under es) ≡ listed (n + 1) (extent_under es)
  unfolding listed
  rows_past zero = let e : 0 + (n + 1) ≡ n + 1 = omega arith in ap (λ k. listed k (extent_under es)) e
  rows_past (suc d) =
      let e : suc d + (n + 1) ≡ suc (d + (n + 1)) = omega arith in
      ap (λ k. listed k (extent_under es)) e
      ∙ ap (λ o. listed (d + (n + 1)) (extent_under es) ++ option_to_list o) (none_past (d + (n + 1)) (omega arith))
      ∙ append_nothing (listed (d + (n + 1)) (extent_under es)) ∙ rows_past d

  pub same_rows : (m : ℕ) → n ≤ m → rows_of m es ≡ rows_of n es
  same_rows m l = let e : m + 1 ≡ m - n + (n + 1) = omega (arith, l) in ap (λ k. listed k (extent_under es)) e ∙ rows_past (m - n)

  pub kept_past : (m : ℕ) → n ≤ m → AreKept m (run_at es)
  kept_past m l = record {
    some = T.some;
    given = λ k r h. ((T.given k r h).0, (let a = (T.given k r h).1 in omega (arith, a, l)));
    fits = T.fits;
    born = T.born;
    once = T.once;
    joined = T.joined;
  }

pub table_past : (es : List (RunKey × Run)) (n count m : ℕ) → IsRunTable n count es → n ≤ m → m < 9223372036854775808 → IsRunTable m count es
table_past es n count m t l few = record {
  ordered = t.ordered;
  kept = kept_past es t.ordered n t.kept m l;
  counted = ap length (same_rows es t.ordered n t.kept m l) ∙ t.counted;
  few = few;
}
