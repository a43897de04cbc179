-- What the runs of a table tell of births and of pages.
use Rattle.std.proofs.Common.{◌≡◌, ℕ, zero, suc, ◌+◌, ◌-◌, ◌<◌, ◌≤◌, Bool, true, false, cond, List, [], ◌∷◌, arith, refl, sym, ap, ◌∙◌, ⊎_elim, inl, inr, true≢false}
use Rattle.std.specs.Prelude.{find, is_some, nat_le, slice_get, Option, Some, None, ◌⊎◌, IsSome}
use Rattle.std.specs.Option.{option_map}
use Rattle.std.specs.Map.{keys_of}
use Rattle.std.specs.Cmp.{eq_by_cmp_equiv}
use Rattle.std.specs.List.Sorted.{IsStrictlySortedBy}
use Rattle.std.proofs.lemmas.Bool.{and_parts, cases_Bool, cases_lt, cond-true, cond-false, leb-true}
use Rattle.std.proofs.lemmas.Map.Entries.{lookup_from_place, place_from_lookup}
use Rattle.std.proofs.lemmas.Map.Keys.{IsDistinct-from_sorted}
use Rattle.st_base.specs.declared.ids.FileId.{FileId}
use Rattle.st_base.specs.declared.ids.PageNo.{PageNo}
use Rattle.st_rules.specs.declared.extents.Extent.{Extent}
use Rattle.st_rules.specs.Keys.{page_no, same_file}
use Rattle.std.specs.List.{list_any}
use Rattle.st_rules.specs.Extents.{is_at_or_behind, is_extent_of}
use Rattle.st_tables.proofs.RowLists.{listed_find, passing}
use Rattle.st_extents.specs.declared.run_map.Run.{Run}
use Rattle.st_extents.specs.Runs.{RunKey, AreKept, AreRunsOf, extent_in, extent_under, file_of, has_birth, has_page, rows_of, run_at, run_order, same_start}
use Rattle.st_extents.proofs.RunOrder.{birth_in, file_is, in_birth, in_page, of_page, order_total, page_in, page_of, same_true, share}
use Rattle.st_extents.proofs.Owned.{found_is_any}

-- Lists.

place_by : {A : Type 0} (p : A → Bool) (x e : A) (xs : List A) (b : Bool) → p x ≡ b → (find p xs ≡ Some e → (i : ℕ) × ((slice_get xs i ≡ Some e) × (p e ≡ true))) → cond b (Some x) (find p xs) ≡ Some e → (i : ℕ) × ((slice_get (x ∷ xs) i ≡ Some e) × (p e ≡ true))
place_by p x e xs true q ih h = let z : x ≡ e = cc in (0, (h, ap p (sym z) ∙ q))
place_by p x e xs false q ih h = let r = ih h in (suc r.0, r.1)

found_place : {A : Type 0} (p : A → Bool) (e : A) (xs : List A) → find p xs ≡ Some e → (i : ℕ) × ((slice_get xs i ≡ Some e) × (p e ≡ true))
found_place p e [] h = cc
found_place p e (x ∷ xs) h = place_by p x e xs (p x) refl (found_place p e xs) h

some_place : {A : Type 0} (p : A → Bool) (xs : List A) (i : ℕ) (x : A) → slice_get xs i ≡ Some x → p x ≡ true → (e : A) × ((find p xs ≡ Some e) × (p e ≡ true))
some_place p [] i x h t = cc
some_place p (y ∷ xs) zero x h t = let z : y ≡ x = cc in (y, (cond-true (p y) (Some y) (find p xs) (ap p z ∙ t), ap p z ∙ t))
some_place p (y ∷ xs) (suc i) x h t =
    ⊎_elim
    (λ q. (y, (cond-true (p y) (Some y) (find p xs) q, q)))
    (λ q. let r = some_place p xs i x h t in (r.0, (cond-false (p y) (Some y) (find p xs) q ∙ r.1.0, r.1.1)))
    (cases_Bool (p y))

pub none_is_none : {A : Type 0} (o : Option A) → is_some o ≡ false → o ≡ None
none_is_none None h = refl
none_is_none (Some x) h = absurd (true≢false h)

-- The runs of a map.
module _ (es : List (RunKey × Run)) (sorted : IsStrictlySortedBy run_order (keys_of es)) where
  at_found : (p : RunKey × Run → Bool) (e : RunKey × Run) → find p es ≡ Some e → (run_at es e.0 ≡ Some e.1) × (p e ≡ true)
  at_found p e h =
      let r = found_place p e es h in
      (lookup_from_place (eq_by_cmp_equiv order_total) es r.0 e.0 e.1 (IsDistinct-from_sorted run_order (keys_of es) sorted) r.1.0, r.1.1)

  found_at : (p : RunKey × Run → Bool) (k : RunKey) (r : Run) → run_at es k ≡ Some r → p (k, r) ≡ true → (e : RunKey × Run) × ((find p es ≡ Some e) × (p e ≡ true))
  found_at p k r h t =
      let q = place_from_lookup (same_start k) es r h in
      some_place p es q.0 (k, r) (q.2 ∙ (λ i. Some (sym (same_true k q.1 q.3) i, r))) t

  -- the one that passes
  found_is : (p : RunKey × Run → Bool) (k : RunKey) (r : Run) → run_at es k ≡ Some r → p (k, r) ≡ true → ((j : RunKey) (q : Run) → run_at es j ≡ Some q → p (j, q) ≡ true → j ≡ k) → find p es ≡ Some (k, r)
  found_is p k r h t u =
      let f = found_at p k r h t in
      let g = at_found p f.0 f.1.0 in
      let s : f.0.0 ≡ k = u f.0.0 f.0.1 g.0 g.1 in
      let z : Some f.0.1 ≡ Some r = sym g.0 ∙ ap (run_at es) s ∙ h in
      let w : f.0.1 ≡ r = cc in
      f.1.0 ∙ (λ i. Some (s i, w i))

  none_by : (p : RunKey × Run → Bool) → ((k : RunKey) (r : Run) → run_at es k ≡ Some r → p (k, r) ≡ false) → (o : Option (RunKey × Run)) → find p es ≡ o → o ≡ None
  none_by p h None e = refl
  none_by p h (Some x) e = let g = at_found p x e in absurd (true≢false (sym g.1 ∙ h x.0 x.1 g.0))

  none_is : (p : RunKey × Run → Bool) → ((k : RunKey) (r : Run) → run_at es k ≡ Some r → p (k, r) ≡ false) → find p es ≡ None
  none_is p h = none_by p h (find p es) refl

  -- no run has the birth
  pub under_none : (b : ℕ) → ((k : RunKey) (r : Run) → run_at es k ≡ Some r → has_birth b (k, r) ≡ false) → extent_under es b ≡ None
  under_none b h = ap (option_map (λ e. extent_in (b - e.1.birth) e)) (none_is (has_birth b) h)

  -- a run with this birth
  abbrev pub Born : ℕ → Type 0
  Born b = (k : RunKey) × ((r : Run) × ((run_at es k ≡ Some r) × (has_birth b (k, r) ≡ true)))

  cases_by : (b : ℕ) (o : Option (RunKey × Run)) → find (has_birth b) es ≡ o → (find (has_birth b) es ≡ None) ⊎ Born b
  cases_by b None e = inl e
  cases_by b (Some x) e = let g = at_found (has_birth b) x e in inr (x.0, (x.1, g))

  pub under_cases : (b : ℕ) → (extent_under es b ≡ None) ⊎ Born b
  under_cases b = ⊎_elim (λ e. inl (ap (option_map (λ e. extent_in (b - e.1.birth) e)) e)) (λ r. inr r) (cases_by b (find (has_birth b) es) refl)

  module _ (n : ℕ) (kept : AreKept n (run_at es)) where
    pub under_is : (k : RunKey) (r : Run) (b : ℕ) → run_at es k ≡ Some r → has_birth b (k, r) ≡ true → extent_under es b ≡ Some (extent_in (b - r.birth) (k, r))
    under_is k r b h t = ap (option_map (λ e. extent_in (b - e.1.birth) e)) (found_is (has_birth b) k r h t (λ j q g s. kept.born j k q r b g h s t))

    pub under_some : (b : ℕ) (x : Extent) → extent_under es b ≡ Some x → (k : RunKey) × ((r : Run) × ((run_at es k ≡ Some r) × ((has_birth b (k, r) ≡ true) × (x ≡ extent_in (b - r.birth) (k, r)))))
    under_some b x h =
        ⊎_elim
        (λ e. let z : None ≡ Some x = sym e ∙ h in cc)
        (λ s.
        let z : Some x ≡ Some (extent_in (b - s.1.0.birth) (s.0, s.1.0)) = sym h ∙ under_is s.0 s.1.0 b s.1.1.0 s.1.1.1 in
        let w : x ≡ extent_in (b - s.1.0.birth) (s.0, s.1.0) = cc in
        (s.0, (s.1.0, (s.1.1.0, (s.1.1.1, w)))))
        (under_cases b)

    -- one run of two that share a page
    pub one_run : (j k : RunKey) (q r : Run) → run_at es j ≡ Some q → run_at es k ≡ Some r → j ≡ k → q ≡ r
    one_run j k q r g h e = let z : Some q ≡ Some r = sym g ∙ ap (run_at es) e ∙ h in cc

    -- a page of a run has one birth
    pub one_birth : (k : RunKey) (r : Run) (i b : ℕ) (x : Extent) → run_at es k ≡ Some r → i < r.length → extent_under es b ≡ Some x → is_extent_of (file_of k) (page_no (k.1.0 + i)) x ≡ true → b ≡ r.birth + i
    one_birth k r i b x h l g t =
        let s = under_some b x g in
        let f = page_of (file_of k) (page_no (k.1.0 + i)) x t in
        let e = s.1.1.1.1 in
        let in_q = birth_in b (s.0, s.1.0) s.1.1.1.0 in
        let page : s.0.1.0 + (b - s.1.0.birth) ≡ k.1.0 + i = sym (ap (λ (y : Extent). y.page.0) e) ∙ f.1 in
        let file : file_of s.0 ≡ file_of k = sym (ap (λ (y : Extent). y.file) e) ∙ f.0 in
        let z : s.0 ≡ k = kept.once s.0 k s.1.0 r s.1.1.0 h (share (s.0, s.1.0) (k, r) file (omega (arith, page, l)) (omega (arith, page, in_q.0, in_q.1))) in
        let w : s.1.0 ≡ r = one_run s.0 k s.1.0 r s.1.1.0 h z in
        let at : s.0.1.0 ≡ k.1.0 = ap (λ (y : RunKey). y.1.0) z in
        let since : s.1.0.birth ≡ r.birth = ap (λ (y : Run). y.birth) w in
        omega (arith, page, at, since, in_q.0)

    -- each page of a run is mapped
    pub told : (k : RunKey) (r : Run) (i : ℕ) → run_at es k ≡ Some r → i < r.length → find (is_extent_of (file_of k) (page_no (k.1.0 + i))) (rows_of n es) ≡ Some (extent_in i (k, r))
    told k r i h l =
        let g = kept.given k r h in
        let there : r.birth + i - r.birth ≡ i = omega arith in
        listed_find (is_extent_of (file_of k) (page_no (k.1.0 + i))) (extent_in i (k, r)) (r.birth + i) (n + 1) (extent_under es) (omega (arith, g.1, l))
        (under_is k r (r.birth + i) h (in_birth (r.birth + i) (k, r) (omega arith) (omega (arith, l))) ∙ ap (λ j. Some (extent_in j (k, r))) there)
        (of_page (file_of k) (page_no (k.1.0 + i)) (extent_in i (k, r)) refl refl)
        (λ j x a t. one_birth k r i j x h l a t)

    -- each mapped page is in a run
    pub all : (f : FileId) (p : PageNo) → is_some (find (is_extent_of f p) (rows_of n es)) ≡ true → (k : RunKey) × ((r : Run) × ((run_at es k ≡ Some r) × (has_page f p (k, r) ≡ true)))
    all f p h =
        let m = passing (is_extent_of f p) (n + 1) (extent_under es) (sym (found_is_any (is_extent_of f p) (rows_of n es)) ∙ h) in
        let s = under_some m.0 m.1.0 m.1.1.1.0 in
        let g = page_of f p m.1.0 m.1.1.1.1 in
        let e = s.1.1.1.1 in
        let in_r = birth_in m.0 (s.0, s.1.0) s.1.1.1.0 in
        let page : s.0.1.0 + (m.0 - s.1.0.birth) ≡ p.0 = sym (ap (λ (y : Extent). y.page.0) e) ∙ g.1 in
        (s.0, (s.1.0, (s.1.1.0, in_page f p (s.0, s.1.0) (sym (ap (λ (y : Extent). y.file) e) ∙ g.0) (omega (arith, page)) (omega (arith, page, in_r.0, in_r.1)))))

    pub are_runs : AreRunsOf (rows_of n es) (run_at es)
    are_runs = record { told = told; all = all; some = kept.some; once = kept.once; joined = kept.joined }

    -- a page that a run has
    pub page_told : (f : FileId) (p : PageNo) (k : RunKey) (r : Run) → run_at es k ≡ Some r → has_page f p (k, r) ≡ true → find (is_extent_of f p) (rows_of n es) ≡ Some (extent_in (p.0 - k.1.0) (k, r))
    page_told f p k r h t =
        let q = page_in f p (k, r) t in
        let e : k.1.0 + (p.0 - k.1.0) ≡ p.0 = omega (arith, q.1.0) in
        (λ i. find (is_extent_of (sym q.0 i) (page_no (sym e i))) (rows_of n es)) ∙ told k r (p.0 - k.1.0) h (omega (arith, q.1.0, q.1.1))

    -- a page that no run has
    pub page_free : (f : FileId) (p : PageNo) → ((k : RunKey) (r : Run) → run_at es k ≡ Some r → has_page f p (k, r) ≡ false) → find (is_extent_of f p) (rows_of n es) ≡ None
    page_free f p h =
        none_is_none (find (is_extent_of f p) (rows_of n es))
        (⊎_elim (λ t. let s = all f p t in absurd (true≢false (sym s.1.1.1 ∙ h s.0 s.1.0 s.1.1.0))) (λ e. e) (cases_Bool (is_some (find (is_extent_of f p) (rows_of n es)))))

    -- a page that is not mapped is in no run
    pub free_page : (f : FileId) (p : PageNo) → is_some (find (is_extent_of f p) (rows_of n es)) ≡ false → (k : RunKey) (r : Run) → run_at es k ≡ Some r → has_page f p (k, r) ≡ false
    free_page f p e k r h =
        ⊎_elim (λ t. absurd (true≢false (sym (ap is_some (page_told f p k r h t)) ∙ e))) (λ t. t) (cases_Bool (has_page f p (k, r)))

    -- The last run that begins at the page or before it has the page, or no run has it.
    module _ (f : FileId) (p : PageNo) (k : RunKey) (r : Run) (h : run_at es k ≡ Some r) (file : file_of k ≡ f) (up : k.1.0 ≤ p.0) (last : (j : RunKey) → file_of j ≡ f → j.1.0 ≤ p.0 → IsSome (run_at es j) → j.1.0 ≤ k.1.0) where
      some_at : (j : RunKey) (q : Run) → run_at es j ≡ Some q → IsSome (run_at es j)
      some_at j q g = ap is_some g

      pub behind_free : k.1.0 + r.length ≤ p.0 → (j : RunKey) (q : Run) → run_at es j ≡ Some q → has_page f p (j, q) ≡ false
      behind_free l j q g =
          ⊎_elim
          (λ t.
          let m = page_in f p (j, q) t in
          let some = kept.some k r h in
          let near : j.1.0 ≤ k.1.0 = last j m.0 m.1.0 (some_at j q g) in
          let z : j ≡ k = kept.once j k q r g h (share (j, q) (k, r) (m.0 ∙ sym file) (omega (arith, near, some)) (omega (arith, up, m.1.1))) in
          let w : q ≡ r = one_run j k q r g h z in
          let a : j.1.0 ≡ k.1.0 = ap (λ (y : RunKey). y.1.0) z in
          let b : q.length ≡ r.length = ap (λ (y : Run). y.length) w in
          absurd (omega (arith, m.1.1, l, a, b)))
          (λ t. t)
          (cases_Bool (has_page f p (j, q)))

      -- a mapped page is in that run
      pub holds : is_some (find (is_extent_of f p) (rows_of n es)) ≡ true → p.0 < k.1.0 + r.length
      holds t =
          ⊎_elim (λ l. l) (λ l. absurd (true≢false (sym t ∙ ap is_some (page_free f p (behind_free l))))) (cases_lt p.0 (k.1.0 + r.length))

    -- no run begins at the page or before it
    pub before_free : (f : FileId) (p : PageNo) → ((j : RunKey) → file_of j ≡ f → j.1.0 ≤ p.0 → IsSome (run_at es j) → ⊥) → (j : RunKey) (q : Run) → run_at es j ≡ Some q → has_page f p (j, q) ≡ false
    before_free f p last j q g =
        ⊎_elim (λ t. let m = page_in f p (j, q) t in absurd (last j m.0 m.1.0 (ap is_some g))) (λ t. t) (cases_Bool (has_page f p (j, q)))

    -- no page of the file is mapped from a page on, if no run goes so far
    pub none_behind : (f : FileId) (p : PageNo) → ((j : RunKey) (q : Run) → run_at es j ≡ Some q → file_of j ≡ f → j.1.0 + q.length ≤ p.0) → list_any (is_at_or_behind f p) (rows_of n es) ≡ false
    none_behind f p short = ⊎_elim
        (λ t.
        let m = passing (is_at_or_behind f p) (n + 1) (extent_under es) t in
        let s = under_some m.0 m.1.0 m.1.1.1.0 in
        let e = s.1.1.1.1 in
        let in_r = birth_in m.0 (s.0, s.1.0) s.1.1.1.0 in
        let g = and_parts (same_file m.1.0.file f) (nat_le p.0 m.1.0.page.0) m.1.1.1.1 in
        let page : m.1.0.page.0 ≡ s.0.1.0 + (m.0 - s.1.0.birth) = ap (λ (y : Extent). y.page.0) e in
        let file : file_of s.0 ≡ f = sym (ap (λ (y : Extent). y.file) e) ∙ file_is m.1.0.file f g.0 in
        let up = leb-true p.0 m.1.0.page.0 g.1 in
        let l = short s.0 s.1.0 s.1.1.0 file in
        absurd (omega (arith, page, up, l, in_r.0, in_r.1)))
        (λ t. t)
        (cases_Bool (list_any (is_at_or_behind f p) (rows_of n es)))

    -- the last run of a file ends last
    pub ends_last : (f : FileId) (p : ℕ) (k : RunKey) (r : Run) → run_at es k ≡ Some r → file_of k ≡ f → ((j : RunKey) → file_of j ≡ f → j.1.0 ≤ 4294967295 → IsSome (run_at es j) → j.1.0 ≤ k.1.0) → k.1.0 + r.length ≤ p → (j : RunKey) (q : Run) → run_at es j ≡ Some q → file_of j ≡ f → j.1.0 + q.length ≤ p
    ends_last f p k r h file last l j q g e =
        let a = (kept.fits j q g).0 in
        let near : j.1.0 ≤ k.1.0 = last j e (omega (arith, a)) (ap is_some g) in
        let some = kept.some k r h in
        ⊎_elim
        (λ m.
        let z : j ≡ k = kept.once j k q r g h (share (j, q) (k, r) (e ∙ sym file) (omega (arith, near, some)) m) in
        let w : q ≡ r = one_run j k q r g h z in
        let x : j.1.0 ≡ k.1.0 = ap (λ (y : RunKey). y.1.0) z in
        let y : q.length ≡ r.length = ap (λ (y : Run). y.length) w in
        omega (arith, x, y, l))
        (λ m. omega (arith, m, l))
        (cases_lt k.1.0 (j.1.0 + q.length))

    -- no run of the file: none ends after the page
    pub ends_never : (f : FileId) (p : ℕ) → ((j : RunKey) → file_of j ≡ f → j.1.0 ≤ 4294967295 → IsSome (run_at es j) → ⊥) → (j : RunKey) (q : Run) → run_at es j ≡ Some q → file_of j ≡ f → j.1.0 + q.length ≤ p
    ends_never f p last j q g e = let a = (kept.fits j q g).0 in absurd (last j e (omega (arith, a)) (ap is_some g))

    -- the last page of a run
    pub last_told : (f : FileId) (k : RunKey) (r : Run) → run_at es k ≡ Some r → file_of k ≡ f → find (is_extent_of f (page_no (k.1.0 + (r.length - 1)))) (rows_of n es) ≡ Some (extent_in (r.length - 1) (k, r))
    last_told f k r h file =
        let s = kept.some k r h in
        (λ i. find (is_extent_of (sym file i) (page_no (k.1.0 + (r.length - 1)))) (rows_of n es)) ∙ told k r (r.length - 1) h (omega (arith, s))
