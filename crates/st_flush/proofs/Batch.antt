-- In the flush phase the writes that go out page by page are those that go out at once.
use Rattle.st_lemmas.proofs.Words
use Words.{◌≡◌, ℕ, suc, ◌+◌, ◌<◌, Bool, true, false, ◌&&◌, ◌||◌, ◌==◌, not, cond, if◌then◌else◌, List, [], ◌∷◌, ◌++◌, map, length, Option, Some, None, refl}
use Words.{sym, ap, subst, ◌∙◌, arith, append_assoc, find, filter, filter_map, list_any, cons_option, AllByRecursion, eqb-true, ne_eqb, and_parts, PageNo}
use Words.{Stamp, MappedBlock, PageCommand, DirtyPage}
use Words.Keys.{page_no, same_page, rising}
use Words.io.{Write}
use Words.ClientLease.{may_drain, standing_of}
use Words.ClientPages as pages
use Words.ClientPages.{Pages, Store, begin_command, begin_writes, dirty_places, is_dirty_of, is_write_of, page_command}
use Words.ClientPasses as passes
use Words.ClientPasses.{is_due, is_unfailed, submit_command, submit_write, write_out_at, write_out, write_due, write_page, write_each, writes_by, writes}
use Words.ClientState.{ClientSession, Turn}
use Words.Tables.{and_right}
use Rattle.std.proofs.Common.{add-zero, append-nil}
use Rattle.std.specs.Prelude.{flat_map}
use Rattle.std.proofs.lemmas.List.Folds.{list_any-append}
use Rattle.st_tables.proofs.RisingKeys.{IsRising, rising_rises}
use Rattle.st_flush.specs.FlushWrites.{Draining, is_drained, drained_to, drained_of, drained_at, drained, submit_of, submits, with_writes, drain_out, drain}

-- One page.

-- a page goes out, or none does
abbrev out_if : Turn → Option Draining → Turn
out_if t None = t
out_if t (Some w) = submit_write t w.page w.mapping

-- a page that is due goes out
due_out : (t : Turn) (d : DirtyPage) (m : Option MappedBlock) → write_out_at t d m ≡ out_if t (drained_to d m)
unfolding write_out_at
due_out t d None = refl
due_out t d (Some m) = refl

-- it is due in the flush phase
module _ (s : ClientSession) (now : Stamp) (tick : Bool) where
  one_out : (t : Turn) (o : Option DirtyPage) → may_drain (standing_of t.config s.lease now) ≡ true → write_page t s now tick o ≡ out_if t (drained_of t.here.store o)
  unfolding write_page write_due write_out is_due
  one_out t None h = refl
  one_out t (Some d) h =
      ap (λ (b : Bool). if not (pages.is_being_written t.here.store.commands d.ino d.page) && (if b then is_unfailed d else passes.is_due_by_need t s tick d) then write_out_at t d (pages.mapping_of t.here.store.extents d.ino d.page) else t) h
      ∙ by (is_drained t.here.store d)
    where
      by : (b : Bool) → (if b then write_out_at t d (pages.mapping_of t.here.store.extents d.ino d.page) else t) ≡ out_if t (if b then drained_to d (pages.mapping_of t.here.store.extents d.ino d.page) else None)
      by true = due_out t d (pages.mapping_of t.here.store.extents d.ino d.page)
      by false = refl

-- Other pages, as one goes out.

-- two places are the same
abbrev pub same_place : ℕ × PageNo → ℕ × PageNo → Bool
same_place x y = (x.0 == y.0) && same_page x.1 y.1

or_false : (a b : Bool) → b ≡ false → (a || (b || false)) ≡ a
or_false true b e = refl
or_false false b e = ap (λ v. v || false) e

-- another page is being written as before
written_before : (cs : List PageCommand) (n : ℕ) (ino j : ℕ) (p q : PageNo) (v : ℕ) → same_place (ino, p) (j, q) ≡ false →
    pages.is_being_written (begin_command cs n ino p (Write v)) j q ≡ pages.is_being_written cs j q
unfolding begin_command
written_before cs n ino j p q v e =
    list_any-append (is_write_of j q) cs (page_command n ino p (Write v) ∷ []) ∙ or_false (list_any (is_write_of j q) cs) (same_place (ino, p) (j, q)) e

-- the place of a dirty page
abbrev pub place_of : DirtyPage → ℕ × PageNo
place_of d = (d.ino, d.page)

-- what is found at a place is of that place
found_place : (x : ℕ × PageNo) (d : DirtyPage) (ds : List DirtyPage) → find (is_dirty_of x.0 x.1) ds ≡ Some d → place_of d ≡ x
found_place x d [] e = cc
found_place x d (y ∷ ys) e = go (is_dirty_of x.0 x.1 y) refl e (found_place x d ys)
  where
    go : (b : Bool) → is_dirty_of x.0 x.1 y ≡ b → cond b (Some y) (find (is_dirty_of x.0 x.1) ys) ≡ Some d → (find (is_dirty_of x.0 x.1) ys ≡ Some d → place_of d ≡ x) → place_of d ≡ x
    go true f e r =
        let same : y ≡ d = cc in
        let q = and_parts (y.ino == x.0) (same_page y.page x.1) f in
        let i : y.ino ≡ x.0 = eqb-true _ _ q.0 in
        let n : y.page.0 ≡ x.1.0 = eqb-true _ _ q.1 in
        let p : y.page ≡ x.1 = λ k. record { 0 = n k } in
        ap place_of (sym same) ∙ (λ k. (i k, p k))
    go false f e r = r e

-- the store after a command of a page was begun
abbrev begun : Store → ℕ → ℕ × PageNo → ℕ → Store
begun st n x v = record st { commands = begin_command st.commands n x.0 x.1 (Write v) }

module _ (st : Store) (n v : ℕ) (x : ℕ × PageNo) where
  same_of : (y : ℕ × PageNo) (o : Option DirtyPage) → ((d : DirtyPage) → o ≡ Some d → same_place x (place_of d) ≡ false) → drained_of (begun st n x v) o ≡ drained_of st o
  same_of y None h = refl
  same_of y (Some d) h =
      ap (λ (b : Bool). if not b && is_unfailed d then drained_to d (pages.mapping_of st.extents d.ino d.page) else None)
      (written_before st.commands n x.0 d.ino x.1 d.page v (h d refl))

  same_at : (y : ℕ × PageNo) → same_place x y ≡ false → drained_at (begun st n x v) y ≡ drained_at st y
  same_at y e = same_of y (pages.dirty_of st.pages y.0 y.1) (λ d f. ap (same_place x) (found_place y d st.pages.dirty f) ∙ e)

  same_rest : (ys : List (ℕ × PageNo)) → AllByRecursion (λ y. same_place x y ≡ false) ys → filter_map (drained_at (begun st n x v)) ys ≡ filter_map (drained_at st) ys
  same_rest [] a = refl
  same_rest (y ∷ ys) a = λ i. cons_option (same_at y a.0 i) (same_rest ys a.1 i)

-- Page by page.

-- no place comes twice
unfoldable pub Apart : List (ℕ × PageNo) → Type 0
Apart [] = Unit {0}
Apart (x ∷ xs) = AllByRecursion (λ y. same_place x y ≡ false) xs × Apart xs

-- pages go out one after another
out_each : List Draining → Turn → Turn
out_each [] t = t
out_each (w ∷ ws) t = out_each ws (submit_write t w.page w.mapping)

-- what goes out of a place is of that place
pub draining_place : (st : Store) (x : ℕ × PageNo) (w : Draining) → drained_at st x ≡ Some w → place_of w.page ≡ x
draining_place st x w e = by (pages.dirty_of st.pages x.0 x.1) (λ d f. found_place x d st.pages.dirty f) e
  where
    to_is : (d : DirtyPage) (m : Option MappedBlock) → drained_to d m ≡ Some w → w.page ≡ d
    to_is d None e = cc
    to_is d (Some m) e = let s : record { page = d; mapping = m } ≡ w = cc in sym (ap (λ z. z.page) s)

    is : (d : DirtyPage) (b : Bool) → (if b then drained_to d (pages.mapping_of st.extents d.ino d.page) else None) ≡ Some w → w.page ≡ d
    is d true e = to_is d (pages.mapping_of st.extents d.ino d.page) e
    is d false e = cc

    by : (o : Option DirtyPage) → ((d : DirtyPage) → o ≡ Some d → place_of d ≡ x) → drained_of st o ≡ Some w → place_of w.page ≡ x
    by None h e = cc
    by (Some d) h e = ap place_of (is d (is_drained st d) e) ∙ h d refl

module _ (s : ClientSession) (now : Stamp) (tick : Bool) where
  each_out : (xs : List (ℕ × PageNo)) (t : Turn) → may_drain (standing_of t.config s.lease now) ≡ true → Apart xs →
      write_each s now tick xs t ≡ out_each (filter_map (drained_at t.here.store) xs) t
  unfolding write_each out_each submit_write submit_command Apart
  each_out [] t h a = refl
  each_out (x ∷ xs) t h a =
      ap (write_each s now tick xs) (one_out s now tick t (pages.dirty_of t.here.store.pages x.0 x.1) h)
      ∙ by (λ u k. each_out xs u k a.1) (drained_at t.here.store x) refl
    where
      by : ((u : Turn) → may_drain (standing_of u.config s.lease now) ≡ true → write_each s now tick xs u ≡ out_each (filter_map (drained_at u.here.store) xs) u) →
          (o : Option Draining) → drained_at t.here.store x ≡ o → write_each s now tick xs (out_if t o) ≡ out_each (cons_option o (filter_map (drained_at t.here.store) xs)) t
      by r None e = r t h
      by r (Some w) e =
          let p : place_of w.page ≡ x = draining_place t.here.store x w e in
          let other : AllByRecursion (λ y. same_place (place_of w.page) y ≡ false) xs = subst (λ z. AllByRecursion (λ y. same_place z y ≡ false) xs) (sym p) a.0 in
          r (submit_write t w.page w.mapping) h
          ∙ ap (λ l. out_each l (submit_write t w.page w.mapping)) (same_rest t.here.store t.next_command w.page.version (place_of w.page) xs other)

-- one after another, and at once
out_at_once : (ws : List Draining) (t : Turn) → out_each ws t ≡ drain_out ws t
unfolding out_each drain_out submits begin_writes submit_write submit_command
out_at_once [] t = λ i. record t { next_command = sym (add-zero t.next_command) i; out = sym (append-nil t.out) i }
out_at_once (w ∷ ws) t =
    out_at_once ws (submit_write t w.page w.mapping)
    ∙ (λ i. record t {
      here = record t.here { store = with_writes (w ∷ ws) t.next_command t.here.store };
      next_command = (let e : (t.next_command + 1) + length ws ≡ t.next_command + suc (length ws) = omega arith in e) i;
      out = append_assoc t.out (submit_of t.here.server t.next_command w ∷ []) (submits t.here.server (t.next_command + 1) ws) i;
    })

-- The places of dirty pages.

-- the pages of these numbers of a file
abbrev pages_on : ℕ → List ℕ → List (ℕ × PageNo)
pages_on ino ks = map (λ p. (ino, page_no p)) ks

above_more : (ino j : ℕ) (ks : List ℕ) (ys : List (ℕ × PageNo)) → ino < j → AllByRecursion (λ y. ino < y.0) ys → AllByRecursion (λ y. ino < y.0) (pages_on j ks ++ ys)
above_more ino j [] ys l a = a
above_more ino j (k ∷ ks) ys l a = (l, above_more ino j ks ys l a)

-- the pages of later files
above_all : (ps : Pages) (ino : ℕ) (inos : List ℕ) → AllByRecursion (λ j. ino < j) inos → AllByRecursion (λ y. ino < y.0) (flat_map (pages.dirty_on ps) inos)
above_all ps ino [] a = tt
above_all ps ino (j ∷ js) a =
    above_more ino j (rising (map pages.page_of_dirty (filter (pages.is_dirty_on j) ps.dirty))) (flat_map (pages.dirty_on ps) js) a.0 (above_all ps ino js a.1)

-- one page, the pages after it, and those of later files
apart_one : (ino k : ℕ) (ks : List ℕ) (ys : List (ℕ × PageNo)) → AllByRecursion (λ j. k < j) ks → AllByRecursion (λ y. ino < y.0) ys →
    AllByRecursion (λ y. same_place (ino, page_no k) y ≡ false) (pages_on ino ks ++ ys)
apart_one ino k [] ys a b = later ys b
  where
    later : (zs : List (ℕ × PageNo)) → AllByRecursion (λ y. ino < y.0) zs → AllByRecursion (λ y. same_place (ino, page_no k) y ≡ false) zs
    later [] b = tt
    later (z ∷ zs) b = (ap (λ e. e && same_page (page_no k) z.1) (ne_eqb ino z.0 (λ (e : ino ≡ z.0). omega (arith, e, b.0))), later zs b.1)
apart_one ino k (j ∷ js) ys a b = (and_right (ino == ino) (k == j) (ne_eqb k j (λ (e : k ≡ j). omega (arith, e, a.0))), apart_one ino k js ys a.1 b)

apart_file : (ino : ℕ) (ks : List ℕ) (ys : List (ℕ × PageNo)) → IsRising ks → AllByRecursion (λ y. ino < y.0) ys → Apart ys → Apart (pages_on ino ks ++ ys)
unfolding Apart
apart_file ino [] ys r a h = h
apart_file ino (k ∷ ks) ys r a h = (apart_one ino k ks ys r.0 a, apart_file ino ks ys r.1 a h)

apart_files : (ps : Pages) (inos : List ℕ) → IsRising inos → Apart (flat_map (pages.dirty_on ps) inos)
unfolding Apart
apart_files ps [] r = tt
apart_files ps (j ∷ js) r =
    apart_file j (rising (map pages.page_of_dirty (filter (pages.is_dirty_on j) ps.dirty))) (flat_map (pages.dirty_on ps) js)
    (rising_rises (map pages.page_of_dirty (filter (pages.is_dirty_on j) ps.dirty))) (above_all ps j js r.0) (apart_files ps js r.1)

-- no dirty place comes twice
pub places_apart : (ps : Pages) → Apart (dirty_places ps)
unfolding dirty_places
places_apart ps = apart_files ps (rising (map pages.ino_of_dirty ps.dirty)) (rising_rises (map pages.ino_of_dirty ps.dirty))

-- In the flush phase all writes go out at once.
pub writes_at_once : (now : Stamp) (tick : Bool) (t : Turn) (s : ClientSession) → t.here.session ≡ Some s → may_drain (standing_of t.config s.lease now) ≡ true → writes now tick t ≡ drain t
unfolding writes writes_by drain drained
writes_at_once now tick t s e h =
    ap (writes_by t now tick) e
    ∙ each_out s now tick (dirty_places t.here.store.pages) t h (places_apart t.here.store.pages)
    ∙ out_at_once (filter_map (drained_at t.here.store) (dirty_places t.here.store.pages)) t
