-- What a check of a change is answered.
use Rattle.std.proofs.Common.{◌≡◌, ℕ, suc, ◌+◌, ◌-◌, ◌≤◌, ◌<◌, true, false, List, ◌∷◌, length, Result, Ok, Err, refl, sym, ap, ◌∙◌, arith}
use Rattle.std.specs.Prelude.{Option, Some, None, is_some, nat_le, option_map}
use Rattle.std.proofs.lemmas.Bool.{cond-true, cond-false, le-leb, lt-leb}
use Rattle.st_base.specs.declared.ids.FileId.{FileId}
use Rattle.st_base.specs.declared.ids.PageNo.{PageNo}
use Rattle.st_extents.proofs.Blocks.{pages_left}
use Rattle.st_namespace.specs.Answers.{ino_told}
use Rattle.st_rules.specs.Extents as extents
use Rattle.st_rules.specs.Keys.{page_no}
use Rattle.st_rules.specs.Names as names
use Rattle.st_rules.specs.Server.{Stable}
use Rattle.st_rules.specs.declared.extents.AllocateRefusal.{AllocateRefusal}
use Rattle.st_rules.specs.declared.extents.Extent.{Extent}
use Rattle.st_rules.specs.declared.names.EntryRefusal.{EntryRefusal}
use Rattle.st_rules.specs.declared.names.EntryRefusal.TheVariants as refusals
use Rattle.st_journal.specs.Parts.{checked, names_checked}
use Rattle.st_journal.specs.Stable.{allocate, file, mapped, named, removed}
use Rattle.st_journal.specs.declared.stable.ChangeRefusal.TheVariants.{NoSpace}

-- Pages without a block.

-- how many of the pages from this one on have none
abbrev pub bare_from : extents.Extents → FileId → ℕ → ℕ → ℕ
bare_from x f first count = length (pages_left x.rows f first count)

numbers_next : (first i n : ℕ) → i < n → extents.numbers (first + i) (n - i) ≡ (first + i) ∷ extents.numbers (first + (i + 1)) (n - (i + 1))
unfolding extents.numbers
numbers_next first i n l = let e : n - i ≡ suc (n - (i + 1)) = omega arith in let g : first + (i + 1) ≡ (first + i) + 1 = omega arith in rw (e, g) refl

module _ (x : extents.Extents) (f : FileId) (first : ℕ) (pages total : ℕ) (i n : ℕ) where
  pub page_mapped : i < n → extents.is_mapped x f (page_no (first + i)) ≡ true → pages + bare_from x f (first + i) (n - i) ≡ total →
      pages + bare_from x f (first + (i + 1)) (n - (i + 1)) ≡ total
  page_mapped l t h = rw (numbers_next first i n l, t) at h

  pub page_bare : i < n → extents.is_mapped x f (page_no (first + i)) ≡ false → pages + bare_from x f (first + i) (n - i) ≡ total →
      (pages + 1) + bare_from x f (first + (i + 1)) (n - (i + 1)) ≡ total
  page_bare l t h = let more = rw (numbers_next first i n l, t) at h in omega (arith, more)

  pub pages_counted : n ≤ i → pages + bare_from x f (first + i) (n - i) ≡ total → pages ≡ total
  unfolding extents.numbers
  pages_counted l h = let e : n - i ≡ 0 = omega arith in let none = rw e at h in omega (arith, none)

-- a page is mapped if its place is found
pub mapped_some : (o : Option Extent) → is_some (option_map extents.place_and_birth o) ≡ is_some o
mapped_some None = refl
mapped_some (Some e) = refl

-- Extents.

module _ (t : Stable) (ino : ℕ) (page : PageNo) (count : ℕ) (is : names.is_file t.names ino ≡ true) where
  abbrev wanted : List PageNo
  wanted = extents.unmapped t.extents (file t ino) page count

  mapped_by : (r : Result extents.Extents AllocateRefusal) → extents.allocate_pages t.extents (file t ino) wanted ≡ r → allocate t ino page count ≡ mapped t r
  unfolding allocate extents.allocate
  mapped_by r e = cond-true _ _ _ is ∙ ap (mapped t) e

  -- there is room
  pub allocate_fits : length wanted ≤ extents.free t.extents → Ok tt ≡ checked (allocate t ino page count)
  unfolding extents.allocate_pages
  allocate_fits room =
      sym (ap checked
      (mapped_by (Ok (extents.place_pages (file t ino) wanted t.extents)) (cond-true _ _ _ (le-leb (length wanted) (extents.free t.extents) room))))

-- Names.

-- a change of names is refused as the rule says
pub named_checked : (t : Stable) (r : Result names.Changed EntryRefusal) → checked (named t r) ≡ names_checked (ino_told r)
unfolding named
named_checked t (Ok c) = refl
named_checked t (Err refusals.NoEntry) = refl
named_checked t (Err refusals.Exists) = refl
named_checked t (Err refusals.NotDir) = refl
named_checked t (Err refusals.IsDir) = refl
named_checked t (Err refusals.NotEmpty) = refl
named_checked t (Err refusals.Cycle) = refl
named_checked t (Err refusals.BadName) = refl
named_checked t (Err refusals.TooMany) = refl

pub removed_checked : (t : Stable) (r : Result names.Changed EntryRefusal) → checked (removed t r) ≡ names_checked (ino_told r)
unfolding removed
removed_checked t (Ok c) = refl
removed_checked t (Err refusals.NoEntry) = refl
removed_checked t (Err refusals.Exists) = refl
removed_checked t (Err refusals.NotDir) = refl
removed_checked t (Err refusals.IsDir) = refl
removed_checked t (Err refusals.NotEmpty) = refl
removed_checked t (Err refusals.Cycle) = refl
removed_checked t (Err refusals.BadName) = refl
removed_checked t (Err refusals.TooMany) = refl

-- Names, as they are checked.

module _ (t : Stable) (dir : ℕ) (n : List ℕ) where
  pub create_checked : names_checked (ino_told (names.add t.names dir n false)) ≡ checked (named t (names.create t.names dir n))
  unfolding names.create
  create_checked = sym (named_checked t (names.add t.names dir n false))

  pub mkdir_checked : names_checked (ino_told (names.add t.names dir n true)) ≡ checked (named t (names.mkdir t.names dir n))
  unfolding names.mkdir
  mkdir_checked = sym (named_checked t (names.add t.names dir n true))
