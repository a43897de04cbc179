-- The ownership of extents stays: when a page is mapped to a free block under the next birth, and when pages are released.
use Rattle.std.proofs.Common.{◌≡◌, ℕ, zero, suc, ◌+◌, ◌<◌, ◌≤◌, ◌^◌, Bool, true, false, List, [], ◌∷◌, ◌++◌, length, arith, rules, refl, sym, ◌∙◌, ⊎_elim, true≢false, map}
use Rattle.std.specs.Prelude.{All, ◌&&◌, not, ◌==◌, find, filter, is_some}
use Rattle.std.specs.List.{IsDistinct, AllByRecursion, list_any}
use Rattle.std.proofs.lemmas.List.{length-map}
use Rattle.std.specs.Cmp.{IsEquivalence}
use Rattle.std.proofs.lemmas.Bool.{cases_Bool, and_parts, and_right, ne_eqb, not-true}
use Rattle.std.proofs.lemmas.Map.Made.{All-is_member, length-le_from_is_member}
use Rattle.std.proofs.lemmas.Map.Keys.{IsDistinct-head, IsDistinct-tail, IsDistinct-cons, IsDistinct-push}
use Rattle.std.proofs.lemmas.List.Folds.{list_any-append, list_any_none}
use Rattle.std.proofs.lemmas.List.Elements.{All-push, All-filter, All-head, All-tail, recursion_from_All, filter_passes, All-weaker}
use Rattle.st_base.specs.declared.ids.FileId.{FileId}
use Rattle.st_base.specs.declared.ids.PageNo.{PageNo}
use Rattle.st_base.specs.declared.disk.BlockAt.{BlockAt}
use Rattle.st_rules.specs.declared.extents.Extent.{Extent}
use Rattle.st_rules.specs.Keys.{same_file, same_page, same_block, page_no}
use Rattle.st_rules.specs.Extents as extents
use Rattle.st_extents.specs.Layout.{Shape, with_shape}
use Rattle.st_extents.specs.Ownership.{IsOwned, IsSound, of_one_page, on_one_block, of_one_birth, is_own_block}

-- Lists.

pub every_filter : {K : Type 0} (P : K → Type 0) (p : K → Bool) (xs : List K) → AllByRecursion P xs → AllByRecursion P (filter p xs)
every_filter P p [] a = a
every_filter P p (x ∷ xs) a = ⊎_elim
    (λ t. rw t (a.0, every_filter P p xs a.1))
    (λ f. rw f (every_filter P p xs a.1))
    (cases_Bool (p x))

-- what differs still differs after a filter
pub distinct_filter : {K : Type 0} (E : K → K → Bool) (p : K → Bool) (xs : List K) → IsDistinct E xs → IsDistinct E (filter p xs)
distinct_filter E p [] d = d
distinct_filter E p (x ∷ xs) d =
    let rest = distinct_filter E p xs (IsDistinct-tail E x xs d) in
    ⊎_elim
    (λ t. rw t (IsDistinct-cons E x (filter p xs) (every_filter (λ y. E x y ≡ false) p xs (IsDistinct-head E x xs d)) rest))
    (λ f. rw f rest)
    (cases_Bool (p x))

-- something is found exactly when an element passes
pub found_is_any : {K : Type 0} (p : K → Bool) (xs : List K) → is_some (find p xs) ≡ list_any p xs
found_is_any p [] = refl
found_is_any p (x ∷ xs) = ⊎_elim (λ t. rw t refl) (λ f. rw f (found_is_any p xs)) (cases_Bool (p x))

-- Equivalences.

number_equiv : {K : Type 0} (f : K → ℕ) → IsEquivalence (λ a b. f b == f a)
number_equiv f = record {
  refl = λ x. search rules;
  symm = λ x y. grind arith;
  congr = λ x y z e. grind arith;
}

both_equiv : {K : Type 0} (E F : K → K → Bool) → IsEquivalence E → IsEquivalence F → IsEquivalence (λ a b. E a b && F a b)
both_equiv E F e f = record {
  refl = λ x. rw (e.refl x, f.refl x) refl;
  symm = λ x y. rw (e.symm x y, f.symm x y) refl;
  congr = λ x y z s. rw (e.congr x y z (and_parts (E x y) (F x y) s).0, f.congr x y z (and_parts (E x y) (F x y) s).1) refl;
}

pub pages_equiv : IsEquivalence of_one_page
pages_equiv = both_equiv _ _ (both_equiv _ _ (number_equiv (λ (e : Extent). e.file.server.0)) (number_equiv (λ (e : Extent). e.file.ino))) (number_equiv (λ (e : Extent). e.page.0))

pub blocks_equiv : IsEquivalence on_one_block
blocks_equiv = both_equiv _ _ (number_equiv (λ (e : Extent). e.at.disk.0)) (number_equiv (λ (e : Extent). e.at.block))

pub births_equiv : IsEquivalence of_one_birth
births_equiv = number_equiv (λ (e : Extent). e.birth)

-- blocks, the other way round
abbrev at_block : BlockAt → BlockAt → Bool
at_block a b = same_block b a

at_block_equiv : IsEquivalence at_block
at_block_equiv = both_equiv _ _ (number_equiv (λ (b : BlockAt). b.disk.0)) (number_equiv (λ (b : BlockAt). b.block))

-- Nothing is mapped.
pub none_owned : (s : Shape) (births : ℕ) → IsOwned (with_shape s [] births)
unfolding IsDistinct
none_owned s births = record {
  pages = tt;
  blocks = tt;
  births = tt;
  given = λ k d l. let no : ⊥ = omega arith in absurd no;
  own = λ k d l. let no : ⊥ = omega arith in absurd no;
}

-- A page is mapped.
module _ (x : extents.Extents) (f : FileId) (p : PageNo) where
  one_owned : (b : BlockAt) → IsOwned x → extents.is_mapped x f p ≡ false → extents.is_free x b ≡ true → is_own_block x b ≡ true → IsOwned (extents.with_extent (extents.new_extent x f p b) x)
  unfolding extents.own_blocks
  one_owned b o none free own =
      let e = extents.new_extent x f p b in
      record {
        pages = IsDistinct-push pages_equiv x.rows e o.pages (sym (found_is_any (extents.is_extent_of f p) x.rows) ∙ none);
        blocks = IsDistinct-push blocks_equiv x.rows e o.blocks (not-true (list_any (extents.lies_at b) x.rows) free);
        births = IsDistinct-push births_equiv x.rows e o.births (list_any_none (of_one_birth e) x.rows (All-weaker (λ (d : Extent). d.birth ≤ x.births) (λ (d : Extent). of_one_birth e d ≡ false) (λ d l. grind arith) x.rows o.given));
        given = All-push (λ (d : Extent). d.birth ≤ x.births + 1) x.rows e (All-weaker (λ (d : Extent). d.birth ≤ x.births) (λ (d : Extent). d.birth ≤ x.births + 1) (λ d l. omega (arith, l)) x.rows o.given) (omega arith);
        own = All-push (λ (d : Extent). is_own_block x d.at ≡ true) x.rows e o.own own;
      }

  first_owned : (bs : List BlockAt) → IsOwned x → extents.is_mapped x f p ≡ false → All (λ b. extents.is_free x b ≡ true) bs → All (λ b. is_own_block x b ≡ true) bs → IsOwned (extents.place_on x f p bs)
  unfolding extents.place_on
  first_owned [] o none free own = o
  first_owned (b ∷ bs) o none free own = one_owned b o none (All-head (λ b. extents.is_free x b ≡ true) b bs free) (All-head (λ b. is_own_block x b ≡ true) b bs own)

  page_owned : IsOwned x → extents.is_mapped x f p ≡ false → IsOwned (extents.place_on x f p (extents.free_blocks x))
  unfolding extents.free_blocks
  page_owned o none = first_owned (extents.free_blocks x) o none
      (filter_passes (extents.is_free x) (extents.own_blocks x))
      (All-filter (extents.is_free x) (λ b. is_own_block x b ≡ true) (extents.own_blocks x) (All-is_member at_block_equiv (extents.own_blocks x)))

  -- another page stays unmapped
  still_unmapped : (bs : List BlockAt) (q : PageNo) → extents.is_mapped x f q ≡ false → same_page p q ≡ false → extents.is_mapped (extents.place_on x f p bs) f q ≡ false
  unfolding extents.place_on
  still_unmapped [] q none other = none
  still_unmapped (b ∷ bs) q none other =
      let e = extents.new_extent x f p b in
      let before : list_any (extents.is_extent_of f q) x.rows ≡ false = sym (found_is_any (extents.is_extent_of f q) x.rows) ∙ none in
      let here : extents.is_extent_of f q e ≡ false = and_right (same_file f f) (same_page p q) other in
      found_is_any (extents.is_extent_of f q) (x.rows ++ e ∷ []) ∙ list_any-append (extents.is_extent_of f q) x.rows (e ∷ []) ∙ rw (before, here) refl

  all_unmapped : (bs : List BlockAt) (qs : List PageNo) → AllByRecursion (λ q. extents.is_mapped x f q ≡ false) qs → AllByRecursion (λ q. same_page p q ≡ false) qs → AllByRecursion (λ q. extents.is_mapped (extents.place_on x f p bs) f q ≡ false) qs
  all_unmapped bs [] none other = tt
  all_unmapped bs (q ∷ qs) none other = (still_unmapped bs q none.0 other.0, all_unmapped bs qs none.1 other.1)

-- Pages are mapped one after another.
pages_owned : (f : FileId) (ps : List PageNo) (x : extents.Extents) → IsOwned x → AllByRecursion (λ q. extents.is_mapped x f q ≡ false) ps → IsDistinct same_page ps → IsOwned (extents.place_pages f ps x)
unfolding extents.place_pages
pages_owned f [] x o none d = o
pages_owned f (p ∷ ps) x o none d =
    pages_owned f ps (extents.place_on x f p (extents.free_blocks x)) (page_owned x f p o none.0)
    (all_unmapped x f p (extents.free_blocks x) ps none.1 (IsDistinct-head same_page p ps d)) (IsDistinct-tail same_page p ps d)

pages_above : (m n count : ℕ) → m < n → AllByRecursion (λ q. same_page (page_no m) q ≡ false) (map page_no (extents.numbers n count))
unfolding extents.numbers
pages_above m n zero l = tt
pages_above m n (suc count) l = (ne_eqb m n (λ e. omega (arith, e)), pages_above m (n + 1) count (omega arith))

pub pages_differ : (n count : ℕ) → IsDistinct same_page (map page_no (extents.numbers n count))
unfolding extents.numbers IsDistinct
pages_differ n zero = tt
pages_differ n (suc count) = (pages_above n (n + 1) count (omega arith), pages_differ (n + 1) count)

-- Pages of a range that have no block are mapped.
pub allocated_owned : (x : extents.Extents) (f : FileId) (p : PageNo) (count : ℕ) → IsOwned x → IsOwned (extents.place_pages f (extents.unmapped x f p count) x)
allocated_owned x f p count o =
    let test = λ (q : PageNo). not (extents.is_mapped x f q) in
    let ps = extents.pages_from p count in
    pages_owned f (filter test ps) x o
    (recursion_from_All (λ q. extents.is_mapped x f q ≡ false) (filter test ps)
    (All-weaker (λ q. test q ≡ true) (λ q. extents.is_mapped x f q ≡ false) (λ q h. not-true (extents.is_mapped x f q) h) (filter test ps)
    (filter_passes test ps)))
    (distinct_filter same_page test ps (pages_differ p.0 count))

-- Pages are released.
pub released_owned : (x : extents.Extents) (f : FileId) (p : PageNo) → IsOwned x → IsOwned (extents.release_from x f p)
unfolding extents.release_from extents.own_blocks
released_owned x f p o =
    let keep = λ (e : Extent). not (extents.is_at_or_behind f p e) in
    record {
      pages = distinct_filter of_one_page keep x.rows o.pages;
      blocks = distinct_filter on_one_block keep x.rows o.blocks;
      births = distinct_filter of_one_birth keep x.rows o.births;
      given = All-filter keep (λ (e : Extent). e.birth ≤ x.births) x.rows o.given;
      own = All-filter keep (λ (e : Extent). is_own_block x e.at ≡ true) x.rows o.own;
    }

-- No more pages are mapped than there are blocks.
any_alike : {K : Type 0} (p q : K → Bool) → ((k : K) → p k ≡ q k) → (xs : List K) → list_any p xs ≡ list_any q xs
any_alike p q h [] = refl
any_alike p q h (x ∷ xs) = rw (h x, any_alike p q h xs) refl

abbrev place_of : Extent → BlockAt
place_of e = e.at

blocks_differ : (rows : List Extent) → IsDistinct on_one_block rows → IsDistinct at_block (map place_of rows)
unfolding IsDistinct
blocks_differ [] d = tt
blocks_differ (e ∷ rows) d = (every_place e rows d.0, blocks_differ rows d.1)
  where
    every_place : (e : Extent) (rows : List Extent) → AllByRecursion (λ d. on_one_block e d ≡ false) rows → AllByRecursion (λ b. at_block e.at b ≡ false) (map place_of rows)
    every_place e [] a = tt
    every_place e (d ∷ rows) a = (a.0, every_place e rows a.1)

among_own : (own : List BlockAt) (q : BlockAt) (rows : List Extent) → All (λ e. list_any (at_block e.at) own ≡ true) rows → list_any (at_block q) (map place_of rows) ≡ true → list_any (at_block q) own ≡ true
among_own own q [] a h = absurd (true≢false (sym h))
among_own own q (e ∷ rows) a h = ⊎_elim
    (λ t. any_alike (at_block q) (at_block e.at) (λ z. at_block_equiv.congr q e.at z t) own ∙ All-head (λ e. list_any (at_block e.at) own ≡ true) e rows a)
    (λ t. among_own own q rows (All-tail (λ e. list_any (at_block e.at) own ≡ true) e rows a) (rw t at h))
    (cases_Bool (at_block q e.at))

pub mapped_within : (x : extents.Extents) → IsOwned x → length x.rows ≤ length (extents.own_blocks x)
mapped_within x o =
    let short : length (map place_of x.rows) ≤ length (extents.own_blocks x) = length-le_from_is_member at_block_equiv (map place_of x.rows) (extents.own_blocks x) (blocks_differ x.rows o.blocks) (λ q h. among_own (extents.own_blocks x) q x.rows o.own h) in
    rw (length-map x.rows place_of) at short

-- Soundness.
pub none_sound : (s : Shape) → length (extents.own_blocks (extents.no_extents s.server s.servers s.disks s.blocks)) ≤ 32768 → IsSound (with_shape s [] 0)
none_sound s few = record { owned = none_owned s 0; counted = omega arith; few = few }

pub released_sound : (x : extents.Extents) (f : FileId) (p : PageNo) → IsSound x → IsSound (extents.release_from x f p)
unfolding extents.release_from extents.own_blocks
released_sound x f p k = record { owned = released_owned x f p k.owned; counted = k.counted; few = k.few }

pub allocated_sound : (s : Shape) (rows after : List Extent) (births given : ℕ) (f : FileId) (p : PageNo) (count : ℕ) → IsSound (with_shape s rows births) → with_shape s after given ≡ extents.place_pages f (extents.unmapped (with_shape s rows births) f p count) (with_shape s rows births) → given < 2 ^ 63 → IsSound (with_shape s after given)
unfolding extents.own_blocks
allocated_sound s rows after births given f p count k e l =
    record { owned = rw e (allocated_owned (with_shape s rows births) f p count k.owned); counted = l; few = k.few }
