-- An allocation gives each page one block, and a cut keeps that.
use Rattle.st_lemmas.proofs.Words
use Words.{◌≡◌, ◌⊎◌, ℕ, zero, suc, ◌+◌, ◌≤◌, arith, Bool, true, false, not, ◌&&◌, ◌==◌, List, [], ◌∷◌, ◌++◌, map, filter, find, Option, Some, None, Ok, refl, sym, ap, ◌∙◌, subst, inl, inr}
use Words.{eq-eqb, eqb-true, is_some, if◌then◌else◌, BlockAt, FileId, PageNo, Extent}
use Words.Extents as extents
use Words.Extents.{Extents, is_extent_of}
use Words.Keys.{page_no, same_file, same_page}
use Words.Lists.{Has}
use Words.Tables.{and_both, and_true, found_at, has_append, has_filter, has_map, none_has, not_true}
use Words.Truth.{clash, file_self}
use Rattle.st_trace.proofs.Server.Allocating.{allocated_pages_are_placed}
use Rattle.st_laws_volume.specs.PageBlocks.{IsOnce}

-- A page that has no extent
none_of : (x : Extents) (f : FileId) (p : PageNo) → extents.is_mapped x f p ≡ false → (y : Extent) → Has y x.rows → is_extent_of f p y ≡ false
none_of x f p u y i = go (find (is_extent_of f p) x.rows) refl u
  where
    go : (o : Option Extent) → find (is_extent_of f p) x.rows ≡ o → is_some o ≡ false → is_extent_of f p y ≡ false
    go None q e = none_has (is_extent_of f p) x.rows q y i
    go (Some z) q e = cc e

-- no row is of it
pub no_row : (x : Extents) (f : FileId) (p : PageNo) → extents.is_mapped x f p ≡ false → (y : Extent) → Has y x.rows → y.file ≡ f → y.page ≡ p → ⊥
no_row x f p u y i a c =
    clash
    (and_both (same_file y.file f) (same_page y.page p) (subst (λ (g : FileId). same_file g f ≡ true) (sym a) (file_self f))
    (eq-eqb y.page.0 p.0 (ap (λ (z : PageNo). z.0) c)))
    (none_of x f p u y i)

-- gets one.
place_once : (x : Extents) (f : FileId) (p : PageNo) (bs : List BlockAt) → IsOnce x.rows → extents.is_mapped x f p ≡ false →
    IsOnce (extents.place_on x f p bs).rows
unfolding extents.place_on
place_once x f p [] h u = h
place_once x f p (b ∷ bs) h u = λ d e i j q r. go d e q r (has_append x.rows (new ∷ []) d i) (has_append x.rows (new ∷ []) e j)
  where
    new : Extent
    new = extents.new_extent x f p b

    go : (d e : Extent) → d.file ≡ e.file → d.page ≡ e.page → Has d x.rows ⊎ Has d (new ∷ []) → Has e x.rows ⊎ Has e (new ∷ []) → d.at ≡ e.at
    go d e q r (inl a) (inl c) = h d e a c q r
    go d e q r (inl a) (inr (inl c)) = absurd (no_row x f p u d a (q ∙ ap (λ (y : Extent). y.file) c) (r ∙ ap (λ (y : Extent). y.page) c))
    go d e q r (inr (inl a)) (inl c) = absurd (no_row x f p u e c (sym q ∙ ap (λ (y : Extent). y.file) a) (sym r ∙ ap (λ (y : Extent). y.page) a))
    go d e q r (inr (inl a)) (inr (inl c)) = ap (λ (y : Extent). y.at) a ∙ sym (ap (λ (y : Extent). y.at) c)
    go d e q r (inr (inr a)) c = absurd a
    go d e q r a (inr (inr c)) = absurd c

-- Another page still has none.
still : (x : Extents) (f : FileId) (p : PageNo) (bs : List BlockAt) (q : PageNo) → extents.is_mapped x f q ≡ false → (q.0 ≡ p.0 → ⊥) →
    extents.is_mapped (extents.place_on x f p bs) f q ≡ false
unfolding extents.place_on
still x f p [] q u n = u
still x f p (b ∷ bs) q u n = go (find (is_extent_of f q) (x.rows ++ new ∷ [])) refl
  where
    new : Extent
    new = extents.new_extent x f p b

    by : (y : Extent) → is_extent_of f q y ≡ true → Has y x.rows ⊎ Has y (new ∷ []) → ⊥
    by y t (inl i) = clash t (none_of x f q u y i)
    by y t (inr (inl e)) =
        n (sym (eqb-true p.0 q.0 (and_true (same_file new.file f) (same_page new.page q) (sym (ap (is_extent_of f q) e) ∙ t)).1))
    by y t (inr (inr e)) = e

    go : (o : Option Extent) → find (is_extent_of f q) (x.rows ++ new ∷ []) ≡ o → is_some o ≡ false
    go None e = refl
    go (Some y) e =
        let z = found_at (is_extent_of f q) (x.rows ++ new ∷ []) y e in absurd (by y z.0 (has_append x.rows (new ∷ []) y z.1))

-- Pages that differ
Apart : List PageNo → Type 0
Apart [] = Unit {0}
Apart (p ∷ ps) = ((q : PageNo) → Has q ps → q.0 ≡ p.0 → ⊥) × Apart ps

above : (a n k : ℕ) → Has k (extents.numbers a n) → a ≤ k
unfolding extents.numbers
above a zero k i = absurd i
above a (suc n) k (inl e) = omega (arith, e)
above a (suc n) k (inr i) = let z = above (a + 1) n k i in omega (arith, z)

from_apart : (a n : ℕ) (test : PageNo → Bool) → Apart (filter test (map page_no (extents.numbers a n)))
unfolding extents.numbers Apart
from_apart a zero test = tt
from_apart a (suc n) test = go (test (page_no a)) (from_apart (a + 1) n test)
  where
    rest : List PageNo
    rest = filter test (map page_no (extents.numbers (a + 1) n))

    differs : (q : PageNo) → Has q rest → q.0 ≡ a → ⊥
    differs q i e =
        let z = has_map page_no (extents.numbers (a + 1) n) q (has_filter test (map page_no (extents.numbers (a + 1) n)) q i).0 in
        no (above (a + 1) n z.0 z.1) (sym (ap (λ (y : PageNo). y.0) z.2) ∙ e)
      where
        no : {k : ℕ} → a + 1 ≤ k → k ≡ a → ⊥
        no l q = omega (arith, l, q)

    go : (b : Bool) → Apart rest → Apart (if b then page_no a ∷ rest else rest)
    go true h = (differs, h)
    go false h = h

pages_once : (f : FileId) (ps : List PageNo) (x : Extents) → IsOnce x.rows → Apart ps → ((q : PageNo) → Has q ps → extents.is_mapped x f q ≡ false) →
    IsOnce (extents.place_pages f ps x).rows
unfolding extents.place_pages Apart
pages_once f [] x h a u = h
pages_once f (p ∷ ps) x h a u =
    pages_once f ps (extents.place_on x f p (extents.free_blocks x)) (place_once x f p (extents.free_blocks x) h (u p (inl refl))) a.1
    (λ q i. still x f p (extents.free_blocks x) q (u q (inr i)) (a.0 q i))

pub allocate_once : (x : Extents) (f : FileId) (p : PageNo) (count : ℕ) (y : Extents) → extents.allocate x f p count ≡ Ok y → IsOnce x.rows → IsOnce y.rows
allocate_once x f p count y e h =
    subst (λ (z : Extents). IsOnce z.rows) (allocated_pages_are_placed x f p count y e)
    (pages_once f (extents.unmapped x f p count) x h (from_apart p.0 count (λ q. not (extents.is_mapped x f q)))
    (λ q i. not_true (extents.is_mapped x f q) (has_filter (λ z. not (extents.is_mapped x f z)) (extents.pages_from p count) q i).1))
