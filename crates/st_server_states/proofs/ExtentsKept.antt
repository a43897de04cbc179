-- Extents: what always holds of a server's mapped pages stays after each change.
use Rattle.st_lemmas.proofs.Words
use Words.{◌≡◌, ℕ, zero, suc, ◌+◌, ◌*◌, ◌^◌, ◌<◌, ◌≤◌, Bool, true, false, cond, not, List, [], ◌∷◌, ◌++◌, length, Option, Some, None, refl, ap, arith, filter, map, nat_le, Result, Ok, Err, leb-true, length-append, flat_map}
use Words.{FileId, PageNo, BlockAt, Extent, AllocateRefusal, AllByRecursion}
use Words.wants as space
use Words.Extents as extents
use Words.Extents.{Extents, numbers}
use Words.Keys.{page_no}
use Words.Lengths.{length_map, numbers_length}
use Words.Tables.{cond_either}
use Words.Tests.{filtered_no_longer}
use Rattle.std.specs.Prelude.{All}
use Rattle.std.proofs.lemmas.List.Elements.{All-filter, All-push}
use Rattle.st_extents.specs.Layout.{Shape, with_shape}
use Rattle.st_extents.specs.Restored.{AreBorn, CanBe}
use Rattle.st_extents.proofs.Owned.{allocated_owned, every_filter, released_owned}
use Rattle.st_server.proofs.ExtentChanges as told
use Rattle.st_server.specs.Invariants.{AreMapped}
use Rattle.st_server_states.proofs.NamesKept.{each_last}

-- Births rise.

born_push : (first : ℕ) (es : List Extent) (e : Extent) (births : ℕ) → AreBorn first es births → e.birth ≡ births + 1 →
    AreBorn first (es ++ e ∷ []) (births + 1)
born_push first [] e births a q = (omega (arith, a, q), omega (arith, q))
born_push first (d ∷ es) e births a q = (a.0, born_push d.birth es e births a.1 q)

born_lower : (low first : ℕ) (es : List Extent) (births : ℕ) → low ≤ first → AreBorn first es births → AreBorn low es births
born_lower low first [] births l a = omega (arith, l, a)
born_lower low first (e ∷ es) births l a = (omega (arith, l, a.0), a.1)

born_filter : (keep : Extent → Bool) (first : ℕ) (es : List Extent) (births : ℕ) → AreBorn first es births → AreBorn first (filter keep es) births
born_filter keep first [] births a = a
born_filter keep first (e ∷ es) births a =
    let rest : AreBorn e.birth (filter keep es) births = born_filter keep e.birth es births a.1 in
    cond_either (λ (xs : List Extent). AreBorn first xs births) (keep e) (e ∷ filter keep es) (filter keep es) (λ q. (a.0, rest))
    (λ q. born_lower first e.birth (filter keep es) births (omega (arith, a.0)) rest)

-- a file whose numbers have their widths
pub record FileFits (f : FileId) : Type 0 where
  pub server : f.server.0 < 2 ^ 16
  pub ino : f.ino < 2 ^ 32

abbrev pub IsLow : Extent → Type 0
IsLow e = e.page.0 < 1048576

-- Extents are those of a world of this shape, also after pages are placed and released.
abbrev pub HasShape : Shape → Extents → Type 0
HasShape s x = x ≡ with_shape s x.rows x.births

page_shape : (s : Shape) (x : Extents) (f : FileId) (p : PageNo) (bs : List BlockAt) → HasShape s x → HasShape s (extents.place_on x f p bs)
unfolding extents.place_on
page_shape s x f p [] h = h
page_shape s x f p (b ∷ bs) h = ap (λ (y : Extents). record y { rows = x.rows ++ extents.new_extent x f p b ∷ []; births = x.births + 1 }) h

pages_shape : (s : Shape) (f : FileId) (ps : List PageNo) (x : Extents) → HasShape s x → HasShape s (extents.place_pages f ps x)
unfolding extents.place_pages
pages_shape s f [] x h = h
pages_shape s f (p ∷ ps) x h = pages_shape s f ps (extents.place_on x f p (extents.free_blocks x)) (page_shape s x f p (extents.free_blocks x) h)

abbrev pub ShapeBy : Shape → Result Extents AllocateRefusal → Type 0
ShapeBy s (Ok y) = HasShape s y
ShapeBy s (Err r) = Unit {0}

pub allocate_shape : (s : Shape) (x : Extents) (f : FileId) (p : PageNo) (count : ℕ) → HasShape s x → ShapeBy s (extents.allocate x f p count)
unfolding extents.allocate extents.allocate_pages
allocate_shape s x f p count h =
    let ps : List PageNo = extents.unmapped x f p count in
    cond_either (ShapeBy s) (nat_le (length ps) (extents.free x)) (Ok (extents.place_pages f ps x)) (Err (space.NoSpace (extents.free x) (length ps)))
    (λ q. pages_shape s f ps x h) (λ q. tt)

pub release_shape : (s : Shape) (x : Extents) (f : FileId) (p : PageNo) → HasShape s x → HasShape s (extents.release_from x f p)
unfolding extents.release_from
release_shape s x f p h = ap (λ (y : Extents). record y { rows = filter (λ (e : Extent). not (extents.is_at_or_behind f p e)) x.rows }) h

-- these pages were mapped one after another
pub record ArePlaced (x : Extents) : Type 0 where
  pub rise : AreBorn 0 x.rows x.births
  pub low : All IsLow x.rows
  pub files : AllByRecursion (λ (e : Extent). FileFits e.file) x.rows

-- A page is placed.
module _ (f : FileId) (fits : FileFits f) where
  page_placed : (x : Extents) (p : PageNo) (bs : List BlockAt) → p.0 < 1048576 → ArePlaced x → ArePlaced (extents.place_on x f p bs)
  unfolding extents.place_on
  page_placed x p [] l a = a
  page_placed x p (b ∷ bs) l a =
      let e : Extent = extents.new_extent x f p b in
      record {
        rise = born_push 0 x.rows e x.births a.rise refl;
        low = All-push IsLow x.rows e a.low l;
        files = each_last (λ (d : Extent). FileFits d.file) x.rows e a.files fits;
      }

  pages_placed : (ps : List PageNo) (x : Extents) → AllByRecursion (λ (p : PageNo). p.0 < 1048576) ps → ArePlaced x → ArePlaced (extents.place_pages f ps x)
  unfolding extents.place_pages
  pages_placed [] x l a = a
  pages_placed (p ∷ ps) x l a = pages_placed ps (extents.place_on x f p (extents.free_blocks x)) l.1 (page_placed x p (extents.free_blocks x) l.0 a)

-- how many births there are then
page_births : (x : Extents) (f : FileId) (p : PageNo) (bs : List BlockAt) → (extents.place_on x f p bs).births ≤ x.births + 1
unfolding extents.place_on
page_births x f p [] = omega arith
page_births x f p (b ∷ bs) = omega arith

pages_births : (f : FileId) (ps : List PageNo) (x : Extents) → (extents.place_pages f ps x).births ≤ x.births + length ps
unfolding extents.place_pages
pages_births f [] x = omega arith
pages_births f (p ∷ ps) x =
    let one = page_births x f p (extents.free_blocks x) in
    let rest = pages_births f ps (extents.place_on x f p (extents.free_blocks x)) in
    omega (arith, one, rest)

range_low : (first count : ℕ) → first + count ≤ 1048576 → AllByRecursion (λ (p : PageNo). p.0 < 1048576) (map page_no (numbers first count))
unfolding numbers
range_low first zero l = tt
range_low first (suc count) l = (omega (arith, l), range_low (first + 1) count (omega (arith, l)))

unmapped_low : (x : Extents) (f : FileId) (p : PageNo) (count : ℕ) → p.0 + count ≤ 1048576 →
    AllByRecursion (λ (q : PageNo). q.0 < 1048576) (extents.unmapped x f p count)
unmapped_low x f p count l =
    every_filter (λ (q : PageNo). q.0 < 1048576) (λ (q : PageNo). not (extents.is_mapped x f q)) (extents.pages_from p count) (range_low p.0 count l)

unmapped_few : (x : Extents) (f : FileId) (p : PageNo) (count : ℕ) → length (extents.unmapped x f p count) ≤ count
unmapped_few x f p count =
    let a : length (extents.unmapped x f p count) ≤ length (extents.pages_from p count) =
    filtered_no_longer (λ (q : PageNo). not (extents.is_mapped x f q)) (extents.pages_from p count) in
    let b : length (map page_no (numbers p.0 count)) ≡ length (numbers p.0 count) = length_map page_no (numbers p.0 count) in
    let c : length (numbers p.0 count) ≡ count = numbers_length p.0 count in
    omega (arith, a, b, c)

-- what always holds of the extents of a server in a world of this shape
pub record ExtentsMayBe (s : Shape) (x : Extents) : Type 0 where
  pub shape : HasShape s x
  pub can : CanBe x
  pub mapped : AreMapped x
  pub files : AllByRecursion (λ (e : Extent). FileFits e.file) x.rows

abbrev pub MayBeBy : Shape → Result Extents AllocateRefusal → Type 0
MayBeBy s (Ok y) = ExtentsMayBe s y
MayBeBy s (Err r) = Unit {0}

placed : (s : Shape) (x : Extents) → ExtentsMayBe s x → ArePlaced x
placed s x m = record { rise = m.can.births.rise; low = m.can.low; files = m.files }

module _ (s : Shape) (x : Extents) (m : ExtentsMayBe s x) (f : FileId) where
  pub allocate_may : (p : PageNo) (count : ℕ) → FileFits f → p.0 + count ≤ 1048576 → count ≤ 64 → x.births < 2 ^ 62 → MayBeBy s (extents.allocate x f p count)
  unfolding extents.allocate extents.allocate_pages
  allocate_may p count fits range few room =
      let ps : List PageNo = extents.unmapped x f p count in
      let all = told.allocated x f p count few m.mapped room in
      cond_either (λ (r : Result Extents AllocateRefusal). told.Allocated r → MayBeBy s r) (nat_le (length ps) (extents.free x))
      (Ok (extents.place_pages f ps x))
      (Err (space.NoSpace (extents.free x) (length ps)))
      (λ q told_so.
      let after = pages_placed f fits ps x (unmapped_low x f p count range) (placed s x m) in
      let births : (extents.place_pages f ps x).births ≤ x.births + length ps = pages_births f ps x in
      let short : length ps ≤ count = unmapped_few x f p count in
      record {
        shape = pages_shape s f ps x m.shape;
        can = record {
          births = record { rise = after.rise; few = omega (arith, births, short, few, room) };
          low = after.low;
          owned = allocated_owned x f p count m.can.owned;
        };
        mapped = told_so;
        files = after.files;
      })
      (λ q told_so. tt) all

  pub release_may : (p : PageNo) → ExtentsMayBe s (extents.release_from x f p)
  unfolding extents.release_from
  release_may p =
      let keep = λ (e : Extent). not (extents.is_at_or_behind f p e) in
      record {
        shape = release_shape s x f p m.shape;
        can = record {
          births = record { rise = born_filter keep 0 x.rows x.births m.can.births.rise; few = m.can.births.few };
          low = All-filter keep IsLow x.rows m.can.low;
          owned = released_owned x f p m.can.owned;
        };
        mapped = told.release_mapped x f p m.mapped;
        files = every_filter (λ (e : Extent). FileFits e.file) keep x.rows m.files;
      }

-- A server has at most 32,768 blocks.
flat_few : {A B : Type 0} (g : A → List B) → ((y : A) → length (g y) ≤ 4096) → (ys : List A) → length (flat_map g ys) ≤ length ys * 4096
flat_few g k [] = omega arith
flat_few g k (y ∷ ys) =
    let both : length (g y ++ flat_map g ys) ≡ length (g y) + length (flat_map g ys) = length-append (g y) (flat_map g ys) in
    let one : length (g y) ≤ 4096 = k y in
    let rest : length (flat_map g ys) ≤ length ys * 4096 = flat_few g k ys in
    omega (arith, both, one, rest)

disk_few : (x : Extents) → AreMapped x → (place : ℕ) → length (extents.blocks_of x place) ≤ 4096
disk_few x h place =
    let a : length (map (extents.block_at place) (numbers 0 x.blocks)) ≡ length (numbers 0 x.blocks) =
    length_map (extents.block_at place) (numbers 0 x.blocks) in
    let b : length (numbers 0 x.blocks) ≡ x.blocks = numbers_length 0 x.blocks in
    omega (arith, a, b, h.blocks)

pub own_few : (x : Extents) → AreMapped x → length (extents.own_blocks x) ≤ 32768
unfolding extents.own_blocks
own_few x h =
    let places : List ℕ = filter (extents.is_own_disk x) (numbers 0 x.disks) in
    let a : length (flat_map (extents.blocks_of x) places) ≤ length places * 4096 = flat_few (extents.blocks_of x) (disk_few x h) places in
    let b : length places ≤ length (numbers 0 x.disks) = filtered_no_longer (extents.is_own_disk x) (numbers 0 x.disks) in
    let c : length (numbers 0 x.disks) ≡ x.disks = numbers_length 0 x.disks in
    omega (arith, a, b, c, h.disks)
