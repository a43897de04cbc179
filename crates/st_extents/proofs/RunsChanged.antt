-- What a table of runs holds and tells after the run at one key has changed or is gone.
use Rattle.std.proofs.Common.{◌≡◌, ℕ, suc, ◌+◌, ◌-◌, ◌<◌, ◌≤◌, true, false, cond, List, [], ◌∷◌, ◌++◌, length, filter, arith, refl, sym, ap, ◌∙◌, ⊎_elim, inl, inr, true≢false}
use Rattle.std.specs.Prelude.{find, is_some, not, Option, Some, None, ◌⊎◌, ◌==◌}
use Rattle.std.specs.Option.{option_to_list}
use Rattle.std.specs.Map.{keys_of}
use Rattle.std.specs.List.Sorted.{IsStrictlySortedBy}
use Rattle.std.proofs.lemmas.Bool.{cases_Bool, cases_eq, cases_lt, cond-true, cond-false, eq-eqb, ne_eqb}
use Rattle.st_base.specs.declared.ids.FileId.{FileId}
use Rattle.st_base.specs.declared.ids.PageNo.{PageNo}
use Rattle.st_base.specs.declared.disk.BlockAt.{BlockAt}
use Rattle.st_rules.specs.declared.extents.Extent.{Extent}
use Rattle.st_rules.specs.Keys.{page_no}
use Rattle.st_rules.specs.Extents.{is_extent_of}
use Rattle.st_tables.specs.Tables.{kept, listed}
use Rattle.st_tables.proofs.RowLists.{listed_filter, listed_more, listed_push, same_listed}
use Rattle.st_extents.specs.declared.run_map.Run.{Run}
use Rattle.st_extents.specs.Runs.{RunKey, AreKept, extent_in, extent_under, file_of, goes_on, has_birth, key_of, longer, one_page, rows_of, run_at, run_order, same_start, share_page, shorter}
use Rattle.st_extents.proofs.RunOrder.{GoesOn, birth_in, goes, in_birth, in_page, of_page, same_self, same_true, share, shared}
use Rattle.st_extents.proofs.RunsFound.{free_page, one_birth, one_run, under_cases, under_is, under_none}

turned : (a b : RunKey × Run) → share_page a b ≡ true → share_page b a ≡ true
turned a b h = let s = shared a b h in share b a (sym s.0) s.1.1 s.1.0

-- a run at k that fits beside the others
pub record Fits (m : ℕ) (at : RunKey → Option Run) (k : RunKey) (w : Run) : Type 0 where
  pub some : 1 ≤ w.length
  pub given : (1 ≤ w.birth) × (w.birth + w.length ≤ m + 1)
  pub fits : (k.1.0 + w.length ≤ 1048576) × (w.at.block + w.length ≤ 4294967296)
  pub born : (j : RunKey) (q : Run) (b : ℕ) → same_start k j ≡ false → at j ≡ Some q → has_birth b (j, q) ≡ true → has_birth b (k, w) ≡ true → ⊥
  pub once : (j : RunKey) (q : Run) → same_start k j ≡ false → at j ≡ Some q → share_page (j, q) (k, w) ≡ true → ⊥
  pub before : (j : RunKey) (q : Run) → same_start k j ≡ false → at j ≡ Some q → goes_on (j, q) (k, w) ≡ true → ⊥
  pub behind : (j : RunKey) (q : Run) → same_start k j ≡ false → at j ≡ Some q → goes_on (k, w) (j, q) ≡ true → ⊥

-- The run at k changes.
module _ (es fs : List (RunKey × Run)) (k : RunKey) (o : Option Run) (change : (q : RunKey) → run_at fs q ≡ cond (same_start k q) o (run_at es q)) where
  there : run_at fs k ≡ o
  there = change k ∙ cond-true (same_start k k) o (run_at es k) (same_self k)

  other : (q : RunKey) → same_start k q ≡ false → run_at fs q ≡ run_at es q
  other q n = change q ∙ cond-false (same_start k q) o (run_at es q) n

  -- a run is the one at k, or was there
  from : (q : RunKey) (r : Run) → run_at fs q ≡ Some r → ((k ≡ q) × (o ≡ Some r)) ⊎ ((same_start k q ≡ false) × (run_at es q ≡ Some r))
  from q r h =
      ⊎_elim (λ t. let z = same_true k q t in inl (z, sym there ∙ ap (run_at fs) z ∙ h)) (λ t. inr (t, sym (other q t) ∙ h)) (cases_Bool (same_start k q))

  module _ (n m : ℕ) (T : AreKept n (run_at es)) (given : (j : RunKey) (q : Run) → same_start k j ≡ false → run_at es j ≡ Some q → q.birth + q.length ≤ m + 1) where
    -- the run at k is gone
    pub kept_without : o ≡ None → AreKept m (run_at fs)
    kept_without none = record {
      some = λ j q h. T.some j q (was j q h).1;
      given = λ j q h. let a = was j q h in ((T.given j q a.1).0, given j q a.0 a.1);
      fits = λ j q h. T.fits j q (was j q h).1;
      born = λ j l q r b g h. T.born j l q r b (was j q g).1 (was l r h).1;
      once = λ j l q r g h. T.once j l q r (was j q g).1 (was l r h).1;
      joined = λ j l q r g h. T.joined j l q r (was j q g).1 (was l r h).1;
    }
      where
        was : (q : RunKey) (r : Run) → run_at fs q ≡ Some r → (same_start k q ≡ false) × (run_at es q ≡ Some r)
        was q r h = ⊎_elim (λ a. let z : None ≡ Some r = sym none ∙ a.1 in cc) (λ a. a) (from q r h)

    -- the run at k has changed
    pub kept_with : (w : Run) → o ≡ Some w → Fits m (run_at es) k w → AreKept m (run_at fs)
    kept_with w now F = record {
      some = λ j q h. ⊎_elim (λ a. let l : w.length ≡ q.length = ap (λ (y : Run). y.length) (is q a.1) in omega (arith, l, F.some)) (λ a. T.some j q a.1) (from j q h);
      given = λ j q h. ⊎_elim
          (λ a.
          let l : w.length ≡ q.length = ap (λ (y : Run). y.length) (is q a.1) in
          let b : w.birth ≡ q.birth = ap (λ (y : Run). y.birth) (is q a.1) in
          (omega (arith, b, F.given.0), omega (arith, l, b, F.given.1)))
          (λ a. ((T.given j q a.1).0, given j q a.0 a.1)) (from j q h);
      fits = λ j q h. ⊎_elim
          (λ a.
          let l : w.length ≡ q.length = ap (λ (y : Run). y.length) (is q a.1) in
          let b : w.at.block ≡ q.at.block = ap (λ (y : Run). y.at.block) (is q a.1) in
          let p : k.1.0 ≡ j.1.0 = ap (λ (y : RunKey). y.1.0) a.0 in
          (omega (arith, l, p, F.fits.0), omega (arith, l, b, F.fits.1)))
          (λ a. T.fits j q a.1) (from j q h);
      born = λ j l q r b g h x y. ⊎_elim
          (λ a. ⊎_elim
          (λ c. sym a.0 ∙ c.0)
          (λ c. absurd (F.born l r b c.0 c.1 y ((λ i. has_birth b (a.0 i, is q a.1 i)) ∙ x)))
          (from l r h))
          (λ a. ⊎_elim
          (λ c. absurd (F.born j q b a.0 a.1 x ((λ i. has_birth b (c.0 i, is r c.1 i)) ∙ y)))
          (λ c. T.born j l q r b a.1 c.1 x y)
          (from l r h))
          (from j q g);
      once = λ j l q r g h x. ⊎_elim
          (λ a. ⊎_elim
          (λ c. sym a.0 ∙ c.0)
          (λ c. absurd (F.once l r c.0 c.1 ((λ i. share_page (l, r) (a.0 i, is q a.1 i)) ∙ turned (j, q) (l, r) x)))
          (from l r h))
          (λ a. ⊎_elim
          (λ c. absurd (F.once j q a.0 a.1 ((λ i. share_page (j, q) (c.0 i, is r c.1 i)) ∙ x)))
          (λ c. T.once j l q r a.1 c.1 x)
          (from l r h))
          (from j q g);
      joined = λ j l q r g h. ⊎_elim (λ x. absurd (no j l q r g h x)) (λ x. x) (cases_Bool (goes_on (j, q) (l, r)));
    }
      where
        is : (q : Run) → o ≡ Some q → w ≡ q
        is q h = let z : Some w ≡ Some q = sym now ∙ h in cc

        no : (j l : RunKey) (q r : Run) → run_at fs j ≡ Some q → run_at fs l ≡ Some r → goes_on (j, q) (l, r) ≡ true → ⊥
        no j l q r g h x = ⊎_elim
            (λ a. ⊎_elim
            (λ c. let z = goes (k, w) (k, w) ((λ i. goes_on (a.0 i, is q a.1 i) (c.0 i, is r c.1 i)) ∙ x) in omega (arith, z.page, F.some))
            (λ c. F.behind l r c.0 c.1 ((λ i. goes_on (a.0 i, is q a.1 i) (l, r)) ∙ x))
            (from l r h))
            (λ a. ⊎_elim
            (λ c. F.before j q a.0 a.1 ((λ i. goes_on (j, q) (c.0 i, is r c.1 i)) ∙ x))
            (λ c. true≢false (sym x ∙ T.joined j l q r a.1 c.1))
            (from l r h))
            (from j q g)

  -- What is under a birth.
  module _ (sorted : IsStrictlySortedBy run_order (keys_of es)) (after : IsStrictlySortedBy run_order (keys_of fs)) (n m : ℕ) (T : AreKept n (run_at es)) (U : AreKept m (run_at fs)) (b : ℕ) where
    gone : ((w : Run) → o ≡ Some w → has_birth b (k, w) ≡ true → (r : Run) × ((run_at es k ≡ Some r) × (has_birth b (k, r) ≡ true))) → extent_under es b ≡ None → (j : RunKey) (q : Run) → run_at fs j ≡ Some q → has_birth b (j, q) ≡ true → ⊥
    gone only e j q g t = ⊎_elim
        (λ a.
        let r = only q a.1 ((λ i. has_birth b (a.0 i, q)) ∙ t) in
        let z : None ≡ Some (extent_in (b - r.0.birth) (k, r.0)) = sym e ∙ under_is es sorted n T k r.0 b r.1.0 r.1.1 in cc)
        (λ a. let z : None ≡ Some (extent_in (b - q.birth) (j, q)) = sym e ∙ under_is es sorted n T j q b a.1 t in cc)
        (from j q g)

    -- the run at k has the birth as before
    pub same_under : ((r : Run) → run_at es k ≡ Some r → has_birth b (k, r) ≡ true → (w : Run) × ((o ≡ Some w) × ((has_birth b (k, w) ≡ true) × (extent_in (b - w.birth) (k, w) ≡ extent_in (b - r.birth) (k, r)))))
        → ((w : Run) → o ≡ Some w → has_birth b (k, w) ≡ true → (r : Run) × ((run_at es k ≡ Some r) × (has_birth b (k, r) ≡ true)))
        → extent_under fs b ≡ extent_under es b
    same_under keeps only = ⊎_elim
        (λ e. under_none fs after b (λ j q g. ⊎_elim (λ t. absurd (gone only e j q g t)) (λ t. t) (cases_Bool (has_birth b (j, q)))) ∙ sym e)
        (λ s. ⊎_elim
        (λ t.
        let z = same_true k s.0 t in
        let h : run_at es k ≡ Some s.1.0 = ap (run_at es) z ∙ s.1.1.0 in
        let g : has_birth b (k, s.1.0) ≡ true = (λ i. has_birth b (z i, s.1.0)) ∙ s.1.1.1 in
        let w = keeps s.1.0 h g in
        under_is fs after m U k w.0 b (there ∙ w.1.0) w.1.1.0 ∙ ap Some w.1.1.1 ∙ sym (under_is es sorted n T k s.1.0 b h g))
        (λ t. under_is fs after m U s.0 s.1.0 b (other s.0 t ∙ s.1.1.0) s.1.1.1 ∙ sym (under_is es sorted n T s.0 s.1.0 b s.1.1.0 s.1.1.1))
        (cases_Bool (same_start k s.0)))
        (under_cases es sorted b)

-- A page is mapped.
module _ (es : List (RunKey × Run)) (sorted : IsStrictlySortedBy run_order (keys_of es)) (n : ℕ) (T : AreKept n (run_at es)) (f : FileId) (p : PageNo) (at : BlockAt) (low : p.0 < 1048576) (small : at.block < 4294967296) (fresh : is_some (find (is_extent_of f p) (rows_of n es)) ≡ false) where
  free : (j : RunKey) (q : Run) → run_at es j ≡ Some q → file_of j ≡ f → j.1.0 ≤ p.0 → p.0 < j.1.0 + q.length → ⊥
  free j q g file l m = true≢false (sym (in_page f p (j, q) file l m) ∙ free_page es sorted n T f p fresh j q g)

  -- no run begins at the page
  pub none_there : run_at es (key_of f p) ≡ None
  none_there = none_by (run_at es (key_of f p)) refl
    where
      none_by : (o : Option Run) → run_at es (key_of f p) ≡ o → o ≡ None
      none_by None e = refl
      none_by (Some r) e = let l = T.some (key_of f p) r e in absurd (free (key_of f p) r e refl (omega arith) (omega (arith, l)))

  given_more : (k : RunKey) (j : RunKey) (q : Run) → same_start k j ≡ false → run_at es j ≡ Some q → q.birth + q.length ≤ (n + 1) + 1
  given_more k j q d g = let l = (T.given j q g).1 in omega (arith, l)

  -- by a run of its own
  module _ (alone : (j : RunKey) (q : Run) → run_at es j ≡ Some q → goes_on (j, q) (one_page f p at (n + 1)) ≡ false) where
    fits_new : Fits (n + 1) (run_at es) (key_of f p) (one_page f p at (n + 1)).1
    fits_new = record {
      some = omega arith;
      given = (omega arith, omega arith);
      fits = (omega (arith, low), omega (arith, small));
      born = λ j q b d g x y.
          let a = birth_in b (j, q) x in
          let c = birth_in b (one_page f p at (n + 1)) y in
          let l = (T.given j q g).1 in
          omega (arith, a.1, c.0, l);
      once = λ j q d g x. let s = shared (j, q) (one_page f p at (n + 1)) x in free j q g s.0 (omega (arith, s.1.0)) s.1.1;
      before = λ j q d g x. true≢false (sym x ∙ alone j q g);
      behind = λ j q d g x.
          let z = goes (one_page f p at (n + 1)) (j, q) x in
          let l = (T.given j q g).1 in
          let s = T.some j q g in
          omega (arith, z.birth, l, s);
    }

    module _ (fs : List (RunKey × Run)) (after : IsStrictlySortedBy run_order (keys_of fs)) (change : (q : RunKey) → run_at fs q ≡ cond (same_start (key_of f p) q) (Some (one_page f p at (n + 1)).1) (run_at es q)) where
      pub kept_new : AreKept (n + 1) (run_at fs)
      kept_new = kept_with es fs (key_of f p) (Some (one_page f p at (n + 1)).1) change n (n + 1) T (given_more (key_of f p)) (one_page f p at (n + 1)).1 refl fits_new

      pub pushed_new : rows_of (n + 1) fs ≡ rows_of n es ++ record { file = f; page = p; at = at; birth = n + 1 } ∷ []
      pushed_new =
          listed_push (n + 1) (extent_under es) (extent_under fs) (record { file = f; page = p; at = at; birth = n + 1 })
          (λ b l. same_under es fs (key_of f p) (Some (one_page f p at (n + 1)).1) change sorted after n (n + 1) T kept_new b
          (λ r h t. let z : None ≡ Some r = sym none_there ∙ h in cc)
          (λ w h t. let z : (one_page f p at (n + 1)).1 ≡ w = cc in let a : n + 1 ≡ w.birth = ap (λ (y : Run). y.birth) z in let c = birth_in b (key_of f p, w) t in absurd (omega (arith, a, c.0, l))))
          (under_is fs after (n + 1) kept_new (key_of f p) (one_page f p at (n + 1)).1 (n + 1) (there es fs (key_of f p) (Some (one_page f p at (n + 1)).1) change) (in_birth (n + 1) (one_page f p at (n + 1)) (omega arith) (omega arith))
          ∙ ap Some same)
        where
          same : extent_in (n + 1 - (n + 1)) (one_page f p at (n + 1)) ≡ record { file = f; page = p; at = at; birth = n + 1 }
          same =
              let a : p.0 + (n + 1 - (n + 1)) ≡ p.0 = omega arith in
              let b : at.block + (n + 1 - (n + 1)) ≡ at.block = omega arith in
              let c : n + 1 + (n + 1 - (n + 1)) ≡ n + 1 = omega arith in
              (λ i. record { file = f; page = record { 0 = a i }; at = record { disk = at.disk; block = b i }; birth = c i })

  -- by the run that ends before it
  module _ (k : RunKey) (r : Run) (h : run_at es k ≡ Some r) (z : GoesOn (k, r) (one_page f p at (n + 1))) where
    fits_longer : Fits (n + 1) (run_at es) k (longer r)
    fits_longer = record {
      some = omega arith;
      given = ((T.given k r h).0, (let a : r.birth + r.length ≡ n + 1 = z.birth in omega (arith, a)));
      fits = ((let a : k.1.0 + r.length ≡ p.0 = z.page in omega (arith, a, low)), (let a : r.at.block + r.length ≡ at.block = z.block in omega (arith, a, small)));
      born = λ j q b d g x y.
          let a = birth_in b (j, q) x in
          let c = birth_in b (k, longer r) y in
          let l = (T.given j q g).1 in
          let e : r.birth + r.length ≡ n + 1 = z.birth in
          apart j d (T.born j k q r b g h x (in_birth b (k, r) c.0 (omega (arith, a.1, l, e))));
      once = λ j q d g x.
          let s = shared (j, q) (k, longer r) x in
          let e : k.1.0 + r.length ≡ p.0 = z.page in
          ⊎_elim
          (λ l. apart j d (T.once j k q r g h (share (j, q) (k, r) s.0 l s.1.1)))
          (λ l. let m = T.some j q g in free j q g (s.0 ∙ z.file) (omega (arith, e, s.1.0)) (omega (arith, e, l, m)))
          (cases_lt j.1.0 (k.1.0 + r.length));
      before = λ j q d g x. true≢false (sym x ∙ T.joined j k q r g h);
      behind = λ j q d g x.
          let y = goes (k, longer r) (j, q) x in
          let a : r.birth + (r.length + 1) ≡ q.birth = y.birth in
          let e : r.birth + r.length ≡ n + 1 = z.birth in
          let l = (T.given j q g).1 in
          let s = T.some j q g in
          omega (arith, a, e, l, s);
    }
      where
        apart : (j : RunKey) → same_start k j ≡ false → j ≡ k → ⊥
        apart j d e = true≢false (sym (same_self k) ∙ ap (same_start k) (sym e) ∙ d)

    module _ (fs : List (RunKey × Run)) (after : IsStrictlySortedBy run_order (keys_of fs)) (change : (q : RunKey) → run_at fs q ≡ cond (same_start k q) (Some (longer r)) (run_at es q)) where
      pub kept_longer : AreKept (n + 1) (run_at fs)
      kept_longer = kept_with es fs k (Some (longer r)) change n (n + 1) T (given_more k) (longer r) refl fits_longer

      pub pushed_longer : rows_of (n + 1) fs ≡ rows_of n es ++ record { file = f; page = p; at = at; birth = n + 1 } ∷ []
      pushed_longer =
          listed_push (n + 1) (extent_under es) (extent_under fs) (record { file = f; page = p; at = at; birth = n + 1 })
          (λ b l. same_under es fs k (Some (longer r)) change sorted after n (n + 1) T kept_longer b
          (λ s g t.
          let a = birth_in b (k, s) t in
          let y : s ≡ r = one_run es sorted n T k k s r g h refl in
          let u : s.birth ≡ r.birth = ap (λ (x : Run). x.birth) y in
          let v : s.length ≡ r.length = ap (λ (x : Run). x.length) y in
          (longer r, (refl, (in_birth b (k, longer r) (omega (arith, a.0, u)) (omega (arith, a.1, u, v)), (λ i. extent_in (b - (sym y i).birth) (k, sym y i))))))
          (λ w g t.
          let y : longer r ≡ w = cc in
          let a = birth_in b (k, longer r) ((λ i. has_birth b (k, y i)) ∙ t) in
          let e : r.birth + r.length ≡ n + 1 = z.birth in
          (r, (h, in_birth b (k, r) a.0 (omega (arith, e, l))))))
          (under_is fs after (n + 1) kept_longer k (longer r) (n + 1) (there es fs k (Some (longer r)) change) (let e : r.birth + r.length ≡ n + 1 = z.birth in let s = T.some k r h in in_birth (n + 1) (k, longer r) (omega (arith, e)) (omega (arith, e)))
          ∙ ap Some same)
        where
          same : extent_in (n + 1 - r.birth) (k, longer r) ≡ record { file = f; page = p; at = at; birth = n + 1 }
          same =
              let e : r.birth + r.length ≡ n + 1 = z.birth in
              let g : k.1.0 + r.length ≡ p.0 = z.page in
              let d : r.at.block + r.length ≡ at.block = z.block in
              let a : k.1.0 + (n + 1 - r.birth) ≡ p.0 = omega (arith, e, g) in
              let b : r.at.block + (n + 1 - r.birth) ≡ at.block = omega (arith, e, d) in
              let c : r.birth + (n + 1 - r.birth) ≡ n + 1 = omega (arith, e) in
              (λ i. record { file = z.file i; page = record { 0 = a i }; at = record { disk = record { 0 = z.disk i }; block = b i }; birth = c i })

-- The last page of a run goes.
module _ (es : List (RunKey × Run)) (sorted : IsStrictlySortedBy run_order (keys_of es)) (n : ℕ) (T : AreKept n (run_at es)) (k : RunKey) (r : Run) (h : run_at es k ≡ Some r) where
  apart : (j : RunKey) → same_start k j ≡ false → j ≡ k → ⊥
  apart j d e = true≢false (sym (same_self k) ∙ ap (same_start k) (sym e) ∙ d)

  -- what the page was mapped to
  abbrev pub last_of : Extent
  last_of = extent_in (r.length - 1) (k, r)

  fits_shorter : (m : ℕ) → (r.length ≡ 1 → ⊥) → r.birth + r.length ≤ m + 1 + 1 → Fits m (run_at es) k (record r { length = r.length - 1 })
  fits_shorter m more l =
      let s = T.some k r h in
      record {
        some = omega (arith, s, more);
        given = ((T.given k r h).0, omega (arith, l, s));
        fits = (let a = T.fits k r h in (omega (arith, a.0), omega (arith, a.1)));
        born = λ j q b d g x y. let c = birth_in b (k, record r { length = r.length - 1 }) y in apart j d (T.born j k q r b g h x (in_birth b (k, r) c.0 (omega (arith, c.1))));
        once = λ j q d g x. let c = shared (j, q) (k, record r { length = r.length - 1 }) x in apart j d (T.once j k q r g h (share (j, q) (k, r) c.0 (omega (arith, c.1.0)) c.1.1));
        before = λ j q d g x. true≢false (sym x ∙ T.joined j k q r g h);
        behind = λ j q d g x.
            let y = goes (k, record r { length = r.length - 1 }) (j, q) x in
            let a : k.1.0 + (r.length - 1) ≡ j.1.0 = y.page in
            let t = T.some j q g in
            apart j d (T.once j k q r g h (share (j, q) (k, r) (sym y.file) (omega (arith, a, s)) (omega (arith, a, t))));
      }

  shorter_one : r.length ≡ 1 → shorter r ≡ None
  shorter_one e = rw (eq-eqb r.length 1 e) refl

  shorter_more : (r.length ≡ 1 → ⊥) → shorter r ≡ Some (record r { length = r.length - 1 })
  shorter_more e = rw (ne_eqb r.length 1 e) refl

  module _ (fs : List (RunKey × Run)) (after : IsStrictlySortedBy run_order (keys_of fs)) (change : (q : RunKey) → run_at fs q ≡ cond (same_start k q) (shorter r) (run_at es q)) where
    kept_at : (m : ℕ) → r.birth + r.length ≤ m + 1 + 1 → ((j : RunKey) (q : Run) → same_start k j ≡ false → run_at es j ≡ Some q → q.birth + q.length ≤ m + 1) → AreKept m (run_at fs)
    kept_at m l given =
        ⊎_elim
        (λ e. kept_without es fs k (shorter r) change n m T given (shorter_one e))
        (λ e. kept_with es fs k (shorter r) change n m T given (record r { length = r.length - 1 }) (shorter_more e) (fits_shorter m e l))
        (cases_eq r.length 1)

    pub kept_shorter : AreKept n (run_at fs)
    kept_shorter = kept_at n (let a = (T.given k r h).1 in omega (arith, a)) (λ j q d g. (T.given j q g).1)

    -- the birth of the page is taken back
    pub kept_back : (m : ℕ) → m + 1 ≡ n → r.birth + r.length ≡ n + 1 → AreKept m (run_at fs)
    kept_back m e l = kept_at m (omega (arith, e, l)) (λ j q d g.
        ⊎_elim
        (λ x. omega (arith, x, e))
        (λ x.
        let s = T.some k r h in
        let t = T.some j q g in
        let a = (T.given j q g).1 in
        absurd (apart j d (T.born j k q r n g h (in_birth n (j, q) (omega (arith, x, t, a)) (omega (arith, x))) (in_birth n (k, r) (omega (arith, l, s)) (omega (arith, l))))))
        (cases_lt (q.birth + q.length) (n + 1)))

    -- whatever was under another birth stays
    under_others : (m : ℕ) (U : AreKept m (run_at fs)) (b : ℕ) → (b ≡ r.birth + (r.length - 1) → ⊥) → extent_under fs b ≡ extent_under es b
    under_others m U b d =
        let l = T.some k r h in
        same_under es fs k (shorter r) change sorted after n m T U b
        (λ s g t.
        let y : s ≡ r = one_run es sorted n T k k s r g h refl in
        let a = birth_in b (k, r) ((λ i. has_birth b (k, sym y i)) ∙ t) in
        let more : r.length ≡ 1 → ⊥ = λ e. d (omega (arith, e, a.0, a.1)) in
        (record r { length = r.length - 1 }, (shorter_more more, (in_birth b (k, record r { length = r.length - 1 }) a.0 (omega (arith, a.1, l, d)), (λ i. extent_in (b - (sym y i).birth) (k, sym y i))))))
        (λ w g t. ⊎_elim
        (λ e. let z : None ≡ Some w = sym (shorter_one e) ∙ g in cc)
        (λ e.
        let z : Some (record r { length = r.length - 1 }) ≡ Some w = sym (shorter_more e) ∙ g in
        let y : record r { length = r.length - 1 } ≡ w = cc in
        let a = birth_in b (k, record r { length = r.length - 1 }) ((λ i. has_birth b (k, y i)) ∙ t) in
        (r, (h, in_birth b (k, r) a.0 (omega (arith, a.1)))))
        (cases_eq r.length 1))

    -- nothing is under the birth of the page
    pub under_last : extent_under fs (r.birth + (r.length - 1)) ≡ None
    under_last =
        let l = T.some k r h in
        under_none fs after (r.birth + (r.length - 1)) (λ j q g. ⊎_elim (λ t. absurd (no j q g t)) (λ t. t) (cases_Bool (has_birth (r.birth + (r.length - 1)) (j, q))))
      where
        no : (j : RunKey) (q : Run) → run_at fs j ≡ Some q → has_birth (r.birth + (r.length - 1)) (j, q) ≡ true → ⊥
        no j q g t = ⊎_elim
            (λ a. ⊎_elim
            (λ e. let z : None ≡ Some q = sym (shorter_one e) ∙ a.1 in cc)
            (λ e.
            let z : Some (record r { length = r.length - 1 }) ≡ Some q = sym (shorter_more e) ∙ a.1 in
            let y : record r { length = r.length - 1 } ≡ q = cc in
            let c = birth_in (r.birth + (r.length - 1)) (k, record r { length = r.length - 1 }) ((λ i. has_birth (r.birth + (r.length - 1)) (k, y i)) ∙ (λ i. has_birth (r.birth + (r.length - 1)) (a.0 i, q)) ∙ t) in
            omega (arith, c.1))
            (cases_eq r.length 1))
            (λ a.
            let l = T.some k r h in
            apart j a.0 (T.born j k q r (r.birth + (r.length - 1)) a.1 h t (in_birth (r.birth + (r.length - 1)) (k, r) (omega arith) (omega (arith, l)))))
            (from es fs k (shorter r) change j q g)

    under_page : extent_under es (r.birth + (r.length - 1)) ≡ Some last_of
    under_page =
        let l = T.some k r h in
        let e : r.birth + (r.length - 1) - r.birth ≡ r.length - 1 = omega arith in
        under_is es sorted n T k r (r.birth + (r.length - 1)) h (in_birth (r.birth + (r.length - 1)) (k, r) (omega arith) (omega (arith, l))) ∙ ap (λ j. Some (extent_in j (k, r))) e

    keep_by : (o : Option Extent) → ((x : Extent) → o ≡ Some x → is_extent_of (file_of k) (page_no (k.1.0 + (r.length - 1))) x ≡ false) → o ≡ kept (λ x. not (is_extent_of (file_of k) (page_no (k.1.0 + (r.length - 1))) x)) o
    keep_by None g = refl
    keep_by (Some x) g = rw (g x refl) refl

    -- the page is unmapped
    pub popped : rows_of n fs ≡ filter (λ x. not (is_extent_of (file_of k) (page_no (k.1.0 + (r.length - 1))) x)) (rows_of n es)
    popped =
        let l = T.some k r h in
        listed_filter (λ x. not (is_extent_of (file_of k) (page_no (k.1.0 + (r.length - 1))) x)) (n + 1) (extent_under es) (extent_under fs)
        (λ b m. ⊎_elim
        (λ e. ap (extent_under fs) e ∙ under_last ∙ sym (ap (kept (λ x. not (is_extent_of (file_of k) (page_no (k.1.0 + (r.length - 1))) x))) (ap (extent_under es) e ∙ under_page) ∙ gone_here))
        (λ e. under_others n kept_shorter b e ∙ keep_by (extent_under es b) (λ x g.
        ⊎_elim (λ t. absurd (e (one_birth es sorted n T k r (r.length - 1) b x h (omega (arith, l)) g t))) (λ t. t) (cases_Bool (is_extent_of (file_of k) (page_no (k.1.0 + (r.length - 1))) x))))
        (cases_eq b (r.birth + (r.length - 1))))
      where
        gone_here : kept (λ x. not (is_extent_of (file_of k) (page_no (k.1.0 + (r.length - 1))) x)) (Some last_of) ≡ None
        gone_here = rw (of_page (file_of k) (page_no (k.1.0 + (r.length - 1))) last_of refl refl) refl

    -- one page less is mapped
    pub popped_length : length (rows_of n es) ≡ suc (length (rows_of n fs))
    popped_length =
        let a = (T.given k r h).1 in
        let l = T.some k r h in
        listed_more (r.birth + (r.length - 1)) (n + 1) last_of (extent_under fs) (extent_under es) (omega (arith, a, l)) under_last
        (λ b. ⊎_elim
        (λ e. ap (extent_under es) e ∙ under_page ∙ sym (cond-true (b == (r.birth + (r.length - 1))) (Some last_of) (extent_under fs b) (eq-eqb b (r.birth + (r.length - 1)) e)))
        (λ e. sym (under_others n kept_shorter b e) ∙ sym (cond-false (b == (r.birth + (r.length - 1))) (Some last_of) (extent_under fs b) (ne_eqb b (r.birth + (r.length - 1)) e)))
        (cases_eq b (r.birth + (r.length - 1))))

    -- the page that was mapped last is unmapped, and its birth taken back
    pub taken_back : (m : ℕ) → m + 1 ≡ n → r.birth + r.length ≡ n + 1 → rows_of n es ≡ rows_of m fs ++ last_of ∷ []
    unfolding listed
    taken_back m e l =
        let s = T.some k r h in
        let at : n ≡ r.birth + (r.length - 1) = omega (arith, l, s) in
        let more : n + 1 ≡ suc (m + 1) = omega (arith, e) in
        let here : extent_under es (m + 1) ≡ Some last_of = ap (extent_under es) (e ∙ at) ∙ under_page in
        ap (λ j. listed j (extent_under es)) more
        ∙ (λ i. same_listed (m + 1) (extent_under es) (extent_under fs) (λ b t. sym (under_others m (kept_back m e l) b (λ (x : b ≡ r.birth + (r.length - 1)). omega (arith, x, at, t, e)))) i ++ option_to_list (here i))
