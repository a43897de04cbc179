-- Pages that are not mapped yet are mapped one after another.
use Rattle.std.proofs.Common.{◌≡◌, ℕ, zero, suc, ◌+◌, ◌<◌, ◌≤◌, arith, true, false, List, [], ◌∷◌, ◌++◌, filter, length, drop, get_or, refl, ap, subst, ◌∙◌, ⊎_elim, true≢false}
use Rattle.std.specs.Prelude.{find, map, not, is_some}
use Rattle.std.specs.List.{AllByRecursion}
use Rattle.std.proofs.lemmas.Bool.{and_right, cases_Bool, not-true}
use Rattle.std.proofs.lemmas.List.{drop_more}
use Rattle.std.proofs.lemmas.List.Elements.{All-weaker, filter_passes, recursion_from_All}
use Rattle.std.proofs.lemmas.Map.Keys.{IsDistinct-head, IsDistinct-tail}
use Rattle.st_base.specs.declared.ids.FileId.{FileId}
use Rattle.st_base.specs.declared.ids.PageNo.{PageNo}
use Rattle.st_base.specs.declared.disk.BlockAt.{BlockAt}
use Rattle.st_rules.specs.declared.extents.Extent.{Extent}
use Rattle.st_rules.specs.Keys.{page_no, same_file, same_page}
use Rattle.st_rules.specs.Extents.{free_blocks, is_extent_of, no_extents, numbers, own_blocks, pages_from, place_on}
use Rattle.st_extents.specs.Layout.{AreFresh, Shape, none_at, unmapped_of, with_shape}
use Rattle.st_extents.specs.Places.{IsMapped}
use Rattle.st_extents.proofs.Blocks.{free_is}
use Rattle.st_extents.proofs.Owned.{distinct_filter, every_filter, pages_differ}

-- A page is mapped as the definition says.
module _ (s : Shape) (rows after : List Extent) (births : ℕ) (f : FileId) (p : PageNo) where
  placed_by : (bs : List BlockAt) → 1 ≤ length bs → IsMapped rows f p (births + 1) bs after → with_shape s after (births + 1) ≡ place_on (with_shape s rows births) f p bs
  unfolding place_on
  placed_by [] l h = let no : ⊥ = omega (arith, l) in absurd no
  placed_by (b ∷ bs) l h = ap (λ r. with_shape s r (births + 1)) h

  pub mapped_is : (own : List BlockAt) → own ≡ own_blocks (no_extents s.server s.servers s.disks s.blocks) → 1 ≤ length (filter (none_at rows) own) → IsMapped rows f p (births + 1) (filter (none_at rows) own) after → with_shape s after (births + 1) ≡ place_on (with_shape s rows births) f p (free_blocks (with_shape s rows births))
  mapped_is own e l h = placed_by (filter (none_at rows) own) l h ∙ ap (place_on (with_shape s rows births) f p) (free_is s rows births own e)

-- Another page stays unmapped.

module _ (f : FileId) (p q : PageNo) where
  push_unmapped : (rows : List Extent) (e : Extent) → is_some (find (is_extent_of f q) rows) ≡ false → is_extent_of f q e ≡ false → is_some (find (is_extent_of f q) (rows ++ e ∷ [])) ≡ false
  push_unmapped [] e none other = rw other refl
  push_unmapped (x ∷ rows) e none other =
      ⊎_elim
      (λ t. absurd (true≢false (rw t at none)))
      (λ t. rw t (push_unmapped rows e (rw t at none) other))
      (cases_Bool (is_extent_of f q x))

  pub still_fresh : (rows after : List Extent) (e : Extent) → after ≡ rows ++ e ∷ [] → e.page ≡ p → is_some (find (is_extent_of f q) rows) ≡ false → same_page p q ≡ false → is_some (find (is_extent_of f q) after) ≡ false
  still_fresh rows after e h at none other =
      rw h (push_unmapped rows e none (and_right (same_file e.file f) (same_page e.page q) (ap (λ (x : PageNo). same_page x q) at ∙ other)))

module _ (rows : List Extent) (f : FileId) where
  -- the first of the pages that are left
  pub fresh_head : (ps : List PageNo) (i : ℕ) (d : PageNo) → i < length ps → AreFresh rows f (drop i ps) → is_some (find (is_extent_of f (get_or ps i d)) rows) ≡ false
  fresh_head ps i d l h = (subst (AreFresh rows f) (drop_more ps i d l) h).unmapped.0

  each : (after : List Extent) (p : PageNo) → ((q : PageNo) → is_some (find (is_extent_of f q) rows) ≡ false → same_page p q ≡ false → is_some (find (is_extent_of f q) after) ≡ false) → (qs : List PageNo) → AllByRecursion (λ q. is_some (find (is_extent_of f q) rows) ≡ false) qs → AllByRecursion (λ q. same_page p q ≡ false) qs → AllByRecursion (λ q. is_some (find (is_extent_of f q) after) ≡ false) qs
  each after p still [] a b = tt
  each after p still (q ∷ qs) a b = (still q a.0 b.0, each after p still qs a.1 b.1)

  next : (after : List Extent) (p : PageNo) (qs : List PageNo) → ((q : PageNo) → is_some (find (is_extent_of f q) rows) ≡ false → same_page p q ≡ false → is_some (find (is_extent_of f q) after) ≡ false) → AreFresh rows f (p ∷ qs) → AreFresh after f qs
  next after p qs still h = record { unmapped = each after p still qs h.unmapped.1 (IsDistinct-head same_page p qs h.apart); apart = IsDistinct-tail same_page p qs h.apart }

  -- the pages that are left after one more is mapped
  pub fresh_next : (after : List Extent) (ps : List PageNo) (i : ℕ) (d : PageNo) → i < length ps → ((q : PageNo) → is_some (find (is_extent_of f q) rows) ≡ false → same_page (get_or ps i d) q ≡ false → is_some (find (is_extent_of f q) after) ≡ false) → AreFresh rows f (drop i ps) → AreFresh after f (drop (i + 1) ps)
  fresh_next after ps i d l still h = next after (get_or ps i d) (drop (i + 1) ps) still (subst (AreFresh rows f) (drop_more ps i d l) h)

  -- the pages of a range that have no block
  pub fresh_unmapped : (p : PageNo) (count : ℕ) → AreFresh rows f (unmapped_of rows f p count)
  fresh_unmapped p count =
      let test = λ (q : PageNo). not (is_some (find (is_extent_of f q) rows)) in
      let ps = pages_from p count in
      record {
        unmapped = recursion_from_All (λ q. is_some (find (is_extent_of f q) rows) ≡ false) (filter test ps)
            (All-weaker (λ q. test q ≡ true) (λ q. is_some (find (is_extent_of f q) rows) ≡ false) (λ q h. not-true (is_some (find (is_extent_of f q) rows)) h)
            (filter test ps) (filter_passes test ps));
        apart = distinct_filter same_page test ps (pages_differ p.0 count);
      }

-- the pages of a range are below its end
numbers_below : (end n count : ℕ) → n + count ≤ end → AllByRecursion (λ (q : PageNo). q.0 < end) (map page_no (numbers n count))
unfolding numbers
numbers_below end n zero l = tt
numbers_below end n (suc count) l = (omega (arith, l), numbers_below end (n + 1) count (omega (arith, l)))

pub low_unmapped : (rows : List Extent) (f : FileId) (p : PageNo) (count : ℕ) → p.0 + count ≤ 1048576 → AllByRecursion (λ (q : PageNo). q.0 < 1048576) (unmapped_of rows f p count)
low_unmapped rows f p count l = every_filter (λ (q : PageNo). q.0 < 1048576) (λ q. not (is_some (find (is_extent_of f q) rows))) (pages_from p count) (numbers_below 1048576 p.0 count l)
