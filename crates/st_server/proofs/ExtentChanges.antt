-- What the changes of extents keep, and that the rows of a range can be told.
use Rattle.st_lemmas.proofs.Words
use Words.{◌≡◌, ℕ, zero, suc, ◌+◌, ◌*◌, ◌^◌, ◌<◌, ◌≤◌, Bool, true, not, List, [], ◌∷◌, ◌++◌, length, Option, Some, None, refl, sym, subst, ◌∙◌, arith}
use Words.{length-append, filter, filter_map, map, option_map, nat_lt, nat_le, Result, Ok, Err, cons_option, list_all, and_parts, and_from, eqb-true, le-leb}
use Words.{leb-true, lt-ltb, ltb-true, FileId, PageNo, BlockAt, ExtentRow, Extent, AllocateRefusal}
use Words.Kinds.{between, is_word64}
use Words.Ranges.{are_extents, are_rows, after_extent, is_block, is_extent_row, is_page}
use Words.wants.{NoSpace}
use Words.Extents as extents
use Words.Extents.{Extents, numbers}
use Words.Keys.{page_no, same_file, same_page}
use Words.Tables.{cond_either, found_at}
use Words.Lengths.{length_map, numbers_length}
use Words.Tests.{filtered_no_longer}
use Rattle.std.specs.Prelude.{flat_map}
use Rattle.st_server.specs.Invariants.{AreMapped, is_good_extent}
use Rattle.st_server.proofs.Every.{every_append, every_filter, every_found, every_last, every_map}

-- The rows of a range.
module _ (x : Extents) (h : AreMapped x) (f : FileId) where
  row_fits : (n : ℕ) (o : Option Extent) → extents.extent_of x f (page_no n) ≡ o → n ≤ 1048575 → (e : Extent) → o ≡ Some e →
      (e.page.0 ≡ n) × (is_extent_row n (extents.extent_row e) ≡ true)
  row_fits n o q b e r =
      let found = found_at (extents.is_extent_of f (page_no n)) x.rows e (q ∙ r) in
      let here : e.page.0 ≡ n = eqb-true e.page.0 n (and_parts (same_file e.file f) (same_page e.page (page_no n)) found.0).1 in
      let good = every_found is_good_extent (extents.is_extent_of f (page_no n)) x.rows e h.rows (q ∙ r) in (
        here,
        and_from (is_page n e.page.0) (is_good_extent e)
            (and_from (nat_le n e.page.0) (nat_le e.page.0 1048575) (le-leb n e.page.0 (omega (arith, here))) (le-leb e.page.0 1048575 (omega (arith, here, b)))) good,
      )

  -- rows from a page on also fit after an earlier one
  lower : (least n : ℕ) (rs : List ExtentRow) → least ≤ n → are_rows is_extent_row after_extent n rs ≡ true → are_rows is_extent_row after_extent least rs ≡ true
  lower least n [] b e = refl
  lower least n (r ∷ rs) b e =
      let p = and_parts (is_extent_row n r) _ e in
      let s = and_parts (is_page n r.page.0) _ p.0 in
      let v = and_parts (nat_le n r.page.0) (nat_le r.page.0 1048575) s.0 in
      let w : n ≤ r.page.0 = leb-true n r.page.0 v.0 in
      and_from (is_extent_row least r) _
      (and_from (is_page least r.page.0) _ (and_from (nat_le least r.page.0) (nat_le r.page.0 1048575) (le-leb least r.page.0 (omega (arith, w, b))) v.1) s.1) p.1

  option_fits : (n : ℕ) (o : Option Extent) (rest : List ExtentRow) → ((e : Extent) → o ≡ Some e → (e.page.0 ≡ n) × (is_extent_row n (extents.extent_row e) ≡ true)) →
      are_rows is_extent_row after_extent (n + 1) rest ≡ true → are_rows is_extent_row after_extent n (cons_option (option_map extents.extent_row o) rest) ≡ true
  option_fits n None rest g e = lower n (n + 1) rest (omega arith) e
  option_fits n (Some y) rest g e =
      let p = g y refl in
      and_from (is_extent_row n (extents.extent_row y)) _ p.1 (subst (λ (k : ℕ). are_rows is_extent_row after_extent (k + 1) rest ≡ true) (sym p.0) e)

  range_fits : (n count : ℕ) → n + count ≤ 1048576 → are_rows is_extent_row after_extent n (filter_map (extents.extent_row_at x f) (map page_no (numbers n count))) ≡ true
  unfolding numbers
  range_fits n zero b = refl
  range_fits n (suc count) b =
      option_fits n (extents.extent_of x f (page_no n)) (filter_map (extents.extent_row_at x f) (map page_no (numbers (n + 1) count)))
      (λ e q. row_fits n (extents.extent_of x f (page_no n)) refl (omega (arith, b)) e q) (range_fits (n + 1) count (omega (arith, b)))

  cons_few : {A : Type 0} (o : Option A) (xs : List A) → length (cons_option o xs) ≤ length xs + 1
  cons_few None xs = omega arith
  cons_few (Some y) xs = omega arith

  range_few : (n count : ℕ) → length (filter_map (extents.extent_row_at x f) (map page_no (numbers n count))) ≤ count
  unfolding numbers
  range_few n zero = omega arith
  range_few n (suc count) =
      let rest : length (filter_map (extents.extent_row_at x f) (map page_no (numbers (n + 1) count))) ≤ count = range_few (n + 1) count in
      let one : length (cons_option (extents.extent_row_at x f (page_no n)) (filter_map (extents.extent_row_at x f) (map page_no (numbers (n + 1) count))))
      ≤ length (filter_map (extents.extent_row_at x f) (map page_no (numbers (n + 1) count))) + 1
      = cons_few (extents.extent_row_at x f (page_no n)) (filter_map (extents.extent_row_at x f) (map page_no (numbers (n + 1) count))) in
      omega (arith, rest, one)

  pub rows_fit : (page count : ℕ) → count ≤ 64 → page + count ≤ 1048576 → are_extents (extents.extent_rows x f (page_no page) count) ≡ true
  unfolding are_extents extents.extent_rows
  rows_fit page count few b =
      let rows : List ExtentRow = filter_map (extents.extent_row_at x f) (map page_no (numbers page count)) in
      let short : length rows ≤ count = range_few page count in
      and_from (between 0 64 (length rows)) _
      (and_from (nat_le 0 (length rows)) _ (le-leb 0 (length rows) (omega arith)) (le-leb (length rows) 64 (omega (arith, short, few))))
      (lower 0 page rows (omega arith) (range_fits page count b))

-- Changes.
pub release_mapped : (x : Extents) (f : FileId) (p : PageNo) → AreMapped x → AreMapped (extents.release_from x f p)
unfolding extents.release_from
release_mapped x f p h =
    record { rows = every_filter is_good_extent (λ e. not (extents.is_at_or_behind f p e)) x.rows h.rows; disks = h.disks; blocks = h.blocks }

-- a server's blocks are within the limits
numbers_below : (first n most : ℕ) → first + n ≤ most → list_all (λ k. nat_lt k most) (numbers first n) ≡ true
unfolding numbers
numbers_below first zero most b = refl
numbers_below first (suc n) most b = and_from (nat_lt first most) _ (lt-ltb first most (omega (arith, b))) (numbers_below (first + 1) n most (omega (arith, b)))

block_fits : (place block : ℕ) → nat_lt place 8 ≡ true → nat_lt block 4096 ≡ true → is_block (extents.block_at place block) ≡ true
block_fits place block e f =
    let p : place < 8 = ltb-true place 8 e in
    let q : block < 4096 = ltb-true block 4096 f in
    and_from (between 1 8 (place + 1)) (between 0 4095 block)
    (and_from (nat_le 1 (place + 1)) _ (le-leb 1 (place + 1) (omega arith)) (le-leb (place + 1) 8 (omega (arith, p))))
    (and_from (nat_le 0 block) _ (le-leb 0 block (omega arith)) (le-leb block 4095 (omega (arith, q))))

every_flat : {A B : Type 0} (p : A → Bool) (q : B → Bool) (g : A → List B) → ((y : A) → p y ≡ true → list_all q (g y) ≡ true) → (ys : List A) → list_all p ys ≡ true → list_all q (flat_map g ys) ≡ true
every_flat p q g k [] e = refl
every_flat p q g k (y ∷ ys) e =
    let b = and_parts (p y) (list_all p ys) e in every_append q (g y) (flat_map g ys) (k y b.0) (every_flat p q g k ys b.1)

module _ (x : Extents) (h : AreMapped x) where
  own_fit : list_all is_block (extents.own_blocks x) ≡ true
  unfolding extents.own_blocks
  own_fit =
      every_flat (λ k. nat_lt k 8) is_block (extents.blocks_of x)
      (λ place e. every_map (λ k. nat_lt k 4096) is_block (extents.block_at place) (λ block f. block_fits place block e f) (numbers 0 x.blocks) (numbers_below 0 x.blocks 4096 (omega (arith, h.blocks))))
      (filter (extents.is_own_disk x) (numbers 0 x.disks))
      (every_filter (λ k. nat_lt k 8) (extents.is_own_disk x) (numbers 0 x.disks) (numbers_below 0 x.disks 8 (omega (arith, h.disks))))

  free_fit : list_all is_block (extents.free_blocks x) ≡ true
  unfolding extents.free_blocks
  free_fit = every_filter is_block (extents.is_free x) (extents.own_blocks x) own_fit

  place_mapped : (f : FileId) (p : PageNo) (bs : List BlockAt) → list_all is_block bs ≡ true → x.births + 1 < 2 ^ 64 → AreMapped (extents.place_on x f p bs)
  unfolding extents.place_on
  place_mapped f p [] e b = h
  place_mapped f p (y ∷ ys) e b =
      record {
        rows = every_last is_good_extent x.rows (extents.new_extent x f p y) h.rows
            (and_from (is_block y) (is_word64 (x.births + 1)) (and_parts (is_block y) (list_all is_block ys) e).0 (lt-ltb (x.births + 1) (2 ^ 64) b));
        disks = h.disks;
        blocks = h.blocks;
      }

place_births : (x : Extents) (f : FileId) (p : PageNo) (bs : List BlockAt) → (extents.place_on x f p bs).births ≤ x.births + 1
unfolding extents.place_on
place_births x f p [] = omega arith
place_births x f p (y ∷ ys) = omega arith

pages_mapped : (f : FileId) (ps : List PageNo) (x : Extents) → x.births + length ps < 2 ^ 64 → AreMapped x → AreMapped (extents.place_pages f ps x)
unfolding extents.place_pages
pages_mapped f [] x b h = h
pages_mapped f (p ∷ ps) x b h =
    let more : (extents.place_on x f p (extents.free_blocks x)).births ≤ x.births + 1 = place_births x f p (extents.free_blocks x) in
    pages_mapped f ps (extents.place_on x f p (extents.free_blocks x)) (omega (arith, more, b))
    (place_mapped x h f p (extents.free_blocks x) (free_fit x h) (omega (arith, b)))

-- an allocation leaves extents that can be told, or refuses with numbers that can be told
abbrev pub Allocated : Result Extents AllocateRefusal → Type 0
Allocated (Ok y) = AreMapped y
Allocated (Err (NoSpace free asked)) = (is_word64 free ≡ true) × (is_word64 asked ≡ true)

flat_few : {A B : Type 0} (g : A → List B) → ((y : A) → length (g y) ≤ 4096) → (ys : List A) → length (flat_map g ys) ≤ length ys * 4096
flat_few g k [] = omega arith
flat_few g k (y ∷ ys) =
    let both : length (g y ++ flat_map g ys) ≡ length (g y) + length (flat_map g ys) = length-append (g y) (flat_map g ys) in
    let one : length (g y) ≤ 4096 = k y in
    let rest : length (flat_map g ys) ≤ length ys * 4096 = flat_few g k ys in
    omega (arith, both, one, rest)

disk_few : (x : Extents) → AreMapped x → (place : ℕ) → length (extents.blocks_of x place) ≤ 4096
disk_few x h place =
    let a : length (map (extents.block_at place) (numbers 0 x.blocks)) ≡ length (numbers 0 x.blocks) = length_map (extents.block_at place) (numbers 0 x.blocks) in
    let b : length (numbers 0 x.blocks) ≡ x.blocks = numbers_length 0 x.blocks in
    omega (arith, a, b, h.blocks)

own_few : (x : Extents) → AreMapped x → length (extents.own_blocks x) ≤ 32768
unfolding extents.own_blocks
own_few x h =
    let places : List ℕ = filter (extents.is_own_disk x) (numbers 0 x.disks) in
    let a : length (flat_map (extents.blocks_of x) places) ≤ length places * 4096 = flat_few (extents.blocks_of x) (disk_few x h) places in
    let b : length places ≤ length (numbers 0 x.disks) = filtered_no_longer (extents.is_own_disk x) (numbers 0 x.disks) in
    let c : length (numbers 0 x.disks) ≡ x.disks = numbers_length 0 x.disks in
    omega (arith, a, b, c, h.disks)

free_few : (x : Extents) → AreMapped x → length (extents.free_blocks x) ≤ 32768
unfolding extents.free_blocks
free_few x h =
    let a : length (filter (extents.is_free x) (extents.own_blocks x)) ≤ length (extents.own_blocks x) =
    filtered_no_longer (extents.is_free x) (extents.own_blocks x) in
    let b : length (extents.own_blocks x) ≤ 32768 = own_few x h in
    omega (arith, a, b)

unmapped_few : (x : Extents) (f : FileId) (p : PageNo) (count : ℕ) → length (extents.unmapped x f p count) ≤ count
unmapped_few x f p count =
    let a : length (extents.unmapped x f p count) ≤ length (extents.pages_from p count) =
    filtered_no_longer (λ q. not (extents.is_mapped x f q)) (extents.pages_from p count) in
    let b : length (map page_no (numbers p.0 count)) ≡ length (numbers p.0 count) = length_map page_no (numbers p.0 count) in
    let c : length (numbers p.0 count) ≡ count = numbers_length p.0 count in
    omega (arith, a, b, c)

pub allocated : (x : Extents) (f : FileId) (p : PageNo) (count : ℕ) → count ≤ 64 → AreMapped x → x.births < 2 ^ 62 → Allocated (extents.allocate x f p count)
unfolding extents.allocate extents.allocate_pages
allocated x f p count few h b =
    let asked : length (extents.unmapped x f p count) ≤ count = unmapped_few x f p count in
    let free : length (extents.free_blocks x) ≤ 32768 = free_few x h in
    cond_either Allocated (nat_le (length (extents.unmapped x f p count)) (extents.free x)) (Ok (extents.place_pages f (extents.unmapped x f p count) x))
    (Err (NoSpace (extents.free x) (length (extents.unmapped x f p count))))
    (λ q. pages_mapped f (extents.unmapped x f p count) x (omega (arith, asked, few, b)) h)
    (λ q. (lt-ltb (extents.free x) (2 ^ 64) (omega (arith, free)), lt-ltb (length (extents.unmapped x f p count)) (2 ^ 64) (omega (arith, asked, few))))
