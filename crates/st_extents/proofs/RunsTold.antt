-- What the calls on a table of runs leave.
use Rattle.std.proofs.Common.{◌≡◌, ℕ, zero, suc, ◌+◌, ◌-◌, ◌<◌, ◌≤◌, true, false, cond, List, [], ◌∷◌, ◌++◌, filter, length, arith, refl, sym, ap, subst, ◌∙◌, ⊎_elim, true≢false, length-append}
use Rattle.std.specs.Prelude.{find, is_some, not, Option, Some, None, IsSome, IfSome}
use Rattle.std.specs.Option.{IsSomeAnd, option_to_list}
use Rattle.std.specs.Map.{keys_of}
use Rattle.std.specs.List.Sorted.{IsStrictlySortedBy}
use Rattle.std.proofs.lemmas.Bool.{cases_Bool, cases_lt, cond-true, cond-false}
use Rattle.st_base.specs.declared.ids.FileId.{FileId}
use Rattle.st_base.specs.declared.ids.PageNo.{PageNo}
use Rattle.st_base.specs.declared.disk.BlockAt.{BlockAt}
use Rattle.st_rules.specs.declared.extents.Extent.{Extent}
use Rattle.st_rules.specs.Keys.{page_no}
use Rattle.st_rules.specs.Extents.{is_extent_of}
use Rattle.st_tables.specs.Tables.{listed}
use Rattle.st_extents.specs.declared.run_map.Run.{Run}
use Rattle.st_extents.specs.Runs.{RunKey, AreKept, IsRunTable, extent_in, extent_under, file_of, goes_on, grown, grown_by, longer, one_page, rows_of, run_at, run_order, same_start, shorter}
use Rattle.st_extents.proofs.RunOrder.{goes, in_page, share}
use Rattle.st_extents.proofs.RunsFound.{before_free, free_page, holds, page_free, page_told}
use Rattle.st_extents.proofs.RunsChanged.{kept_back, kept_longer, kept_new, kept_shorter, popped, popped_length, pushed_longer, pushed_new, taken_back, under_last}

-- no more rows than births
pub short : (n : ℕ) (f : ℕ → Option Extent) → length (listed n f) ≤ n
unfolding listed
short zero f = omega arith
short (suc n) f =
    let a = short n f in
    let b : length (listed n f ++ option_to_list (f n)) ≡ length (listed n f) + length (option_to_list (f n)) = length-append (listed n f) (option_to_list (f n)) in
    let c = one (f n) in
    omega (arith, a, b, c)
  where
    one : (o : Option Extent) → length (option_to_list o) ≤ 1
    one None = omega arith
    one (Some x) = omega arith

-- nothing is mapped
pub no_rows : rows_of 0 [] ≡ []
unfolding listed
no_rows = refl

pub no_runs : IsRunTable 0 0 []
unfolding IsStrictlySortedBy
no_runs = record {
  ordered = tt;
  kept = record {
    some = λ k r h. cc;
    given = λ k r h. cc;
    fits = λ k r h. cc;
    born = λ j k q r b g h x y. cc;
    once = λ j k q r g h x. cc;
    joined = λ j k q r g h. cc;
  };
  counted = ap length no_rows;
  few = omega arith;
}

-- A page is mapped.
module _ (es : List (RunKey × Run)) (sorted : IsStrictlySortedBy run_order (keys_of es)) (n : ℕ) (T : AreKept n (run_at es)) (f : FileId) (p : PageNo) (at : BlockAt) (low : p.0 < 1048576) (small : at.block < 4294967296) (fresh : is_some (find (is_extent_of f p) (rows_of n es)) ≡ false) where
  abbrev new : RunKey × Run
  new = one_page f p at (n + 1)

  -- what a call leaves that maps the page
  abbrev pub IsPushed : List (RunKey × Run) → Type 0
  IsPushed fs = AreKept (n + 1) (run_at fs) × (rows_of (n + 1) fs ≡ rows_of n es ++ record { file = f; page = p; at = at; birth = n + 1 } ∷ [])

  module _ (fs : List (RunKey × Run)) (after : IsStrictlySortedBy run_order (keys_of fs)) where
    by_new : ((j : RunKey) (q : Run) → run_at es j ≡ Some q → goes_on (j, q) new ≡ false) → (w : RunKey × Run) → w ≡ new → ((q : RunKey) → run_at fs q ≡ cond (same_start w.0 q) (Some w.1) (run_at es q)) → IsPushed fs
    by_new alone w e change =
        let c : (q : RunKey) → run_at fs q ≡ cond (same_start new.0 q) (Some new.1) (run_at es q) = λ q. change q ∙ (λ i. cond (same_start (e i).0 q) (Some (e i).1) (run_at es q)) in
        (kept_new es sorted n T f p at low small fresh alone fs after c, pushed_new es sorted n T f p at low small fresh alone fs after c)

    by_longer : (x : RunKey × Run) → run_at es x.0 ≡ Some x.1 → goes_on x new ≡ true → (w : RunKey × Run) → w ≡ (x.0, longer x.1) → ((q : RunKey) → run_at fs q ≡ cond (same_start w.0 q) (Some w.1) (run_at es q)) → IsPushed fs
    by_longer x h t w e change =
        let c : (q : RunKey) → run_at fs q ≡ cond (same_start x.0 q) (Some (longer x.1)) (run_at es q) = λ q. change q ∙ (λ i. cond (same_start (e i).0 q) (Some (e i).1) (run_at es q)) in
        (kept_longer es sorted n T f p at low small fresh x.0 x.1 h (goes x new t) fs after c, pushed_longer es sorted n T f p at low small fresh x.0 x.1 h (goes x new t) fs after c)

    -- no run goes on at the page but perhaps the last one before it
    alone_by : (x : RunKey × Run) → run_at es x.0 ≡ Some x.1 → file_of x.0 ≡ f → x.0.1.0 ≤ p.0 → ((k : RunKey) → file_of k ≡ f → k.1.0 ≤ p.0 → IsSome (run_at es k) → k.1.0 ≤ x.0.1.0) → goes_on x new ≡ false → (j : RunKey) (q : Run) → run_at es j ≡ Some q → goes_on (j, q) new ≡ false
    alone_by x h file up last apart j q g = ⊎_elim
        (λ t.
        let z = goes (j, q) new t in
        let e : j.1.0 + q.length ≡ p.0 = z.page in
        let near : j.1.0 ≤ x.0.1.0 = last j z.file (omega (arith, e)) (ap is_some g) in
        let s = T.some x.0 x.1 h in
        let a = T.some j q g in
        let free : p.0 < x.0.1.0 + x.1.length → ⊥ = λ m. true≢false (sym (in_page f p x file up m) ∙ free_page es sorted n T f p fresh x.0 x.1 h) in
        ⊎_elim (λ m. absurd (free m))
        (λ m.
        let y : j ≡ x.0 = T.once j x.0 q x.1 g h (share (j, q) x (z.file ∙ sym file) (omega (arith, near, s)) (omega (arith, e, m, s))) in
        let u : Some q ≡ Some x.1 = sym g ∙ ap (run_at es) y ∙ h in
        let v : q ≡ x.1 = cc in
        absurd (true≢false (sym t ∙ (λ i. goes_on (y i, v i) new) ∙ apart)))
        (cases_lt p.0 (x.0.1.0 + x.1.length)))
        (λ t. t)
        (cases_Bool (goes_on (j, q) new))

    by_grown : (x : RunKey × Run) → run_at es x.0 ≡ Some x.1 → file_of x.0 ≡ f → x.0.1.0 ≤ p.0 → ((k : RunKey) → file_of k ≡ f → k.1.0 ≤ p.0 → IsSome (run_at es k) → k.1.0 ≤ x.0.1.0) → (w : RunKey × Run) → w ≡ grown_by x new → ((q : RunKey) → run_at fs q ≡ cond (same_start w.0 q) (Some w.1) (run_at es q)) → IsPushed fs
    by_grown x h file up last w e change = ⊎_elim
        (λ t. by_longer x h t w (e ∙ cond-true (goes_on x new) (x.0, longer x.1) new t) change)
        (λ t. by_new (alone_by x h file up last t) w (e ∙ cond-false (goes_on x new) (x.0, longer x.1) new t) change)
        (cases_Bool (goes_on x new))

    pub pushed_by : (o : Option (RunKey × Run)) → IfSome o (λ e. (run_at es e.0 ≡ Some e.1) × (file_of e.0 ≡ f) × (e.0.1.0 ≤ p.0)) → ((k : RunKey) → file_of k ≡ f → k.1.0 ≤ p.0 → IsSome (run_at es k) → IsSomeAnd o (λ e. k.1.0 ≤ e.0.1.0)) → (w : RunKey × Run) → w ≡ grown o new → ((q : RunKey) → run_at fs q ≡ cond (same_start w.0 q) (Some w.1) (run_at es q)) → IsPushed fs
    pushed_by None found last w e change =
        by_new (λ j q g. ⊎_elim (λ t. let z = goes (j, q) new t in let a : j.1.0 + q.length ≡ p.0 = z.page in absurd (last j z.file (omega (arith, a)) (ap is_some g))) (λ t. t) (cases_Bool (goes_on (j, q) new))) w e change
    pushed_by (Some x) found last w e change = by_grown x found.0 found.1 found.2 last w e change

-- The page that was mapped last is taken back.
module _ (es : List (RunKey × Run)) (sorted : IsStrictlySortedBy run_order (keys_of es)) (n : ℕ) (T : AreKept n (run_at es)) (f : FileId) (p : PageNo) (newest : IsSomeAnd (find (is_extent_of f p) (rows_of n es)) (λ e. e.birth ≡ n)) where
  some_by : (o : Option Extent) → IsSomeAnd o (λ e. e.birth ≡ n) → is_some o ≡ true
  some_by None h = absurd h
  some_by (Some x) h = refl

  mapped : is_some (find (is_extent_of f p) (rows_of n es)) ≡ true
  mapped = some_by (find (is_extent_of f p) (rows_of n es)) newest

  -- a run begins at the page or before it
  pub never_none : ((j : RunKey) → file_of j ≡ f → j.1.0 ≤ p.0 → IsSome (run_at es j) → ⊥) → ⊥
  never_none last = true≢false (sym mapped ∙ ap is_some (page_free es sorted n T f p (before_free es sorted n T f p last)))

  module _ (k : RunKey) (r : Run) (h : run_at es k ≡ Some r) (file : file_of k ≡ f) (up : k.1.0 ≤ p.0) (last : (j : RunKey) → file_of j ≡ f → j.1.0 ≤ p.0 → IsSome (run_at es j) → j.1.0 ≤ k.1.0) where
    inside : p.0 < k.1.0 + r.length
    inside = holds es sorted n T f p k r h file up last mapped

    told_here : find (is_extent_of f p) (rows_of n es) ≡ Some (extent_in (p.0 - k.1.0) (k, r))
    told_here = page_told es sorted n T f p k r h (in_page f p (k, r) file up inside)

    born_last : r.birth + (p.0 - k.1.0) ≡ n
    born_last = subst (λ o. IsSomeAnd o (λ e. e.birth ≡ n)) told_here newest

    pub ends : r.birth + r.length ≡ n + 1
    ends = let a = inside in let b = born_last in let c = (T.given k r h).1 in omega (arith, a, b, c, up)

    pub at_end : p.0 - k.1.0 ≡ r.length - 1
    at_end = let a = inside in let b = born_last in let c = ends in omega (arith, a, b, c, up)

    pub page_last : p.0 ≡ k.1.0 + (r.length - 1)
    page_last = let a = at_end in let b = inside in omega (arith, a, b, up)

    pub told_last : find (is_extent_of f p) (rows_of n es) ≡ Some (extent_in (r.length - 1) (k, r))
    told_last = told_here ∙ ap (λ i. Some (extent_in i (k, r))) at_end

    module _ (m : ℕ) (before : m + 1 ≡ n) (fs : List (RunKey × Run)) (after : IsStrictlySortedBy run_order (keys_of fs)) (change : (q : RunKey) → run_at fs q ≡ cond (same_start k q) (shorter r) (run_at es q)) where
      pub back_kept : AreKept m (run_at fs)
      back_kept = kept_back es sorted n T k r h fs after change m before ends

      pub back_rows : rows_of n es ≡ rows_of m fs ++ extent_in (r.length - 1) (k, r) ∷ []
      back_rows = taken_back es sorted n T k r h fs after change m before ends

      append_nothing : (xs : List Extent) → xs ++ [] ≡ xs
      append_nothing [] = refl
      append_nothing (x ∷ xs) = ap (λ l. x ∷ l) (append_nothing xs)

      same_rows : rows_of n fs ≡ rows_of m fs
      unfolding listed
      same_rows =
          let s = T.some k r h in
          let e = ends in
          let at : m + 1 ≡ r.birth + (r.length - 1) = omega (arith, before, e, s) in
          let more : n + 1 ≡ suc (m + 1) = omega (arith, before) in
          ap (λ j. listed j (extent_under fs)) more
          ∙ ap (λ o. listed (m + 1) (extent_under fs) ++ option_to_list o) (ap (extent_under fs) at ∙ under_last es sorted n T k r h fs after change)
          ∙ append_nothing (listed (m + 1) (extent_under fs))

      pub back_filter : rows_of m fs ≡ filter (λ x. not (is_extent_of f p x)) (rows_of n es)
      back_filter =
          sym same_rows ∙ popped es sorted n T k r h fs after change
          ∙ (λ i. filter (λ x. not (is_extent_of (file i) (page_no (sym page_last i)) x)) (rows_of n es))

-- The calls on a table.

pub push_table : (es fs : List (RunKey × Run)) (n count : ℕ) (t : IsRunTable n count es) (f : FileId) (p : PageNo) (at : BlockAt) → n < 9223372036854775807 → p.0 < 1048576 → at.block < 4294967296 → is_some (find (is_extent_of f p) (rows_of n es)) ≡ false → IsStrictlySortedBy run_order (keys_of fs)
    → (o : Option (RunKey × Run)) → IfSome o (λ e. (run_at es e.0 ≡ Some e.1) × (file_of e.0 ≡ f) × (e.0.1.0 ≤ p.0)) → ((k : RunKey) → file_of k ≡ f → k.1.0 ≤ p.0 → IsSome (run_at es k) → IsSomeAnd o (λ e. k.1.0 ≤ e.0.1.0))
    → (w : RunKey × Run) → w ≡ grown o (one_page f p at (n + 1)) → ((q : RunKey) → run_at fs q ≡ cond (same_start w.0 q) (Some w.1) (run_at es q))
    → IsRunTable (n + 1) (count + 1) fs × (rows_of (n + 1) fs ≡ rows_of n es ++ record { file = f; page = p; at = at; birth = n + 1 } ∷ [])
push_table es fs n count t f p at few low small fresh after o found last w is change =
    let g = pushed_by es t.ordered n t.kept f p at low small fresh fs after o found last w is change in (
      record {
        ordered = after;
        kept = g.0;
        counted = ap length g.1 ∙ length-append (rows_of n es) (record { file = f; page = p; at = at; birth = n + 1 } ∷ []) ∙ ap (λ m. m + 1) t.counted;
        few = omega (arith, few);
      },
      g.1,
    )

pub pop_table : (es fs : List (RunKey × Run)) (n count : ℕ) (t : IsRunTable n count es) (k : RunKey) (r : Run) → run_at es k ≡ Some r → IsStrictlySortedBy run_order (keys_of fs) → ((q : RunKey) → run_at fs q ≡ cond (same_start k q) (shorter r) (run_at es q)) → IsRunTable n (count - 1) fs × ((1 ≤ count) × (length (rows_of n fs) < length (rows_of n es)))
pop_table es fs n count t k r h after change =
    let less = popped_length es t.ordered n t.kept k r h fs after change in
    let c = t.counted in (
      record {
        ordered = after;
        kept = kept_shorter es t.ordered n t.kept k r h fs after change;
        counted = omega (arith, less, c);
        few = t.few;
      },
      (omega (arith, less, c), omega (arith, less)),
    )

-- what taking a page back leaves
pub record IsBack (es fs : List (RunKey × Run)) (n count : ℕ) (f : FileId) (p : PageNo) (k : RunKey) (r : Run) : Type 0 where
  pub some : (1 ≤ n) × (1 ≤ count)
  pub table : IsRunTable (n - 1) (count - 1) fs
  pub rows : rows_of n es ≡ rows_of (n - 1) fs ++ extent_in (r.length - 1) (k, r) ∷ []
  pub kept : rows_of (n - 1) fs ≡ filter (λ x. not (is_extent_of f p x)) (rows_of n es)
  pub told : find (is_extent_of f p) (rows_of n es) ≡ Some (extent_in (r.length - 1) (k, r))

pub back_table : (es fs : List (RunKey × Run)) (n count : ℕ) (t : IsRunTable n count es) (f : FileId) (p : PageNo) → IsSomeAnd (find (is_extent_of f p) (rows_of n es)) (λ e. e.birth ≡ n) → (k : RunKey) (r : Run) → run_at es k ≡ Some r → file_of k ≡ f → k.1.0 ≤ p.0 → ((j : RunKey) → file_of j ≡ f → j.1.0 ≤ p.0 → IsSome (run_at es j) → j.1.0 ≤ k.1.0)
    → IsStrictlySortedBy run_order (keys_of fs) → ((q : RunKey) → run_at fs q ≡ cond (same_start k q) (shorter r) (run_at es q)) → IsBack es fs n count f p k r
back_table es fs n count t f p newest k r h file up last after change =
    let g = t.kept.given k r h in
    let s = t.kept.some k r h in
    let before : n - 1 + 1 ≡ n = omega (arith, g.0, g.1, s) in
    let rows = back_rows es t.ordered n t.kept f p newest k r h file up last (n - 1) before fs after change in
    let more : length (rows_of n es) ≡ length (rows_of (n - 1) fs) + 1 = ap length rows ∙ length-append (rows_of (n - 1) fs) (extent_in (r.length - 1) (k, r) ∷ []) in
    let c = t.counted in
    let few = t.few in
    record {
      some = (omega (arith, before), omega (arith, more, c));
      table = record {
        ordered = after;
        kept = back_kept es t.ordered n t.kept f p newest k r h file up last (n - 1) before fs after change;
        counted = omega (arith, more, c);
        few = omega (arith, few);
      };
      rows = rows;
      kept = back_filter es t.ordered n t.kept f p newest k r h file up last (n - 1) before fs after change;
      told = told_last es t.ordered n t.kept f p newest k r h file up last;
    }
