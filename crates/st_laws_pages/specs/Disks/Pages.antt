-- What holds on the blocks of the pages, what commands carry, and what the births are for.
use Rattle.std.specs.Prelude.{◌≡◌, ℕ, ◌≤◌, Bool, true, ◌&&◌, List, length, Option, Some, None}
use Rattle.st_base.specs.declared.ids.ServerId.{ServerId}
use Rattle.st_base.specs.declared.ids.FileId.{FileId}
use Rattle.st_base.specs.declared.ids.PageNo.{PageNo}
use Rattle.st_base.specs.declared.disk.BlockAt.{BlockAt}
use Rattle.st_base.specs.declared.disk.Tag.{Tag}
use Rattle.st_base.specs.Page.{filled}
use Rattle.st_rules.specs.declared.client.MappedBlock.{MappedBlock}
use Rattle.st_rules.specs.declared.disks.Block.{Block}
use Rattle.st_rules.specs.declared.extents.Extent.{Extent}
use Rattle.st_rules.specs.declared.log.LogEntry.{LogEntry}
use Rattle.st_rules.specs.declared.world.IssuedCommand.{IssuedCommand}
use Rattle.st_rules.specs.Keys.{same_file, same_page, same_block}
use Rattle.st_rules.specs.FlatLog.{owner}
use Rattle.st_rules.specs.ClientPages.{found_under}
use Rattle.st_laws_pages.specs.Disks.Folds.{hard_content, content_upto, Carry, CutsHard, owner_at}

-- The law over any look-ups: the extent of a page, the block at a place, the births of a server, and the write commands that can
-- still take effect, by number, owner, place, tag and bytes.
abbrev pub ExtentsOf : Type 0
ExtentsOf = FileId → PageNo → Option Extent

-- the write commands that can still take effect
abbrev pub LivingOf : Type 1
LivingOf = ℕ → IssuedCommand → BlockAt → Tag → List ℕ → Type 0

-- one page of one file
abbrev pub same_place : FileId → PageNo → FileId → PageNo → Bool
same_place f p g q = same_file f g && same_page p q

-- where an extent lies, and its birth
abbrev pub mapping_of : Extent → MappedBlock
mapping_of e = record { at = e.at; birth = e.birth }

-- the bytes that stand for a page: those of its block if the tag is the extent's, and otherwise zeros; zeros if it is unmapped
abbrev pub standing : FileId → PageNo → (BlockAt → Block) → Option Extent → List ℕ
standing f p block None = filled 0
standing f p block (Some e) = found_under f p (block e.at).tag (block e.at).bytes (mapping_of e)

-- what a command that can still take effect carries
pub record CarriedRight (es : List LogEntry) (mapped : Option Extent) (x : IssuedCommand) (at : BlockAt) (tag : Tag) (bytes : List ℕ) : Type 0 where
  pub index : ℕ
  pub carries : x.carries ≡ Some (record { file = tag.file; page = tag.page; index = index })
  pub high : index ≤ length es
  pub of : owner_at es index ≡ Some (owner x.client x.life tag.file tag.page)
  pub server : x.server ≡ tag.file.server
  pub are : bytes ≡ content_upto 1 index (filled 0) tag.file tag.page es
  pub carry : Carry 1 index (owner x.client x.life tag.file tag.page) tag.file tag.page es
  pub extent : Extent
  pub is : mapped ≡ Some extent
  pub lies : extent.at ≡ at
  pub born : extent.birth ≡ tag.birth

-- What holds of all pages.
pub record PagesAreKept (es : List LogEntry) (mapped : ExtentsOf) (block : BlockAt → Block) (births : ServerId → ℕ) (live : LivingOf) : Type 0 where
  -- what is on the disks is the fold over the hard entries
  pub stands : (f : FileId) (p : PageNo) → standing f p block (mapped f p) ≡ hard_content es f p
  pub carry : (k : ℕ) (x : IssuedCommand) (at : BlockAt) (tag : Tag) (bytes : List ℕ) → live k x at tag bytes →
      CarriedRight es (mapped tag.file tag.page) x at tag bytes
  -- at most one of a page
  pub one : (j k : ℕ) (x y : IssuedCommand) (a b : BlockAt) (s t : Tag) (bs ct : List ℕ) → live j x a s bs → live k y b t ct →
      same_place s.file s.page t.file t.page ≡ true → j ≡ k
  -- a block has one page
  pub apart : (f g : FileId) (p q : PageNo) (d e : Extent) → mapped f p ≡ Some d → mapped g q ≡ Some e → same_block d.at e.at ≡ true → same_place f p g q ≡ true
  -- births rise and are not used again
  pub below : (f : FileId) (p : PageNo) (e : Extent) → mapped f p ≡ Some e → e.birth ≤ births f.server
  pub tags : (at : BlockAt) → (block at).tag.birth ≤ births (block at).tag.file.server
  pub cuts : CutsHard es
