-- What the disks hold of pages, and what is hard of them in the log.
use Rattle.std.specs.Prelude.{◌≡◌, ℕ, Bool, ◌&&◌, ◌==◌, List, [], ◌∷◌, ◌++◌, map, Option, Some, None, ⊤, if◌then◌else◌}
use Rattle.std.specs.List.{flat_map}
use Rattle.st_base.specs.declared.ids.FileId.{FileId}
use Rattle.st_base.specs.declared.ids.PageNo.{PageNo}
use Rattle.st_base.specs.declared.disk.Tag.{Tag}
use Rattle.st_base.specs.Page.{filled}
use Rattle.st_rules.specs.declared.disks.Block.{Block}
use Rattle.st_rules.specs.declared.extents.Extent.{Extent}
use Rattle.st_rules.specs.declared.log.LogEntry.{LogEntry}
use Rattle.st_rules.specs.Disks as disks
use Rattle.st_rules.specs.Events.{is_hard_fate}
use Rattle.st_rules.specs.Extents as extents
use Rattle.st_rules.specs.FlatLog as log
use Rattle.st_rules.specs.Keys.{same_file, same_page}
use Rattle.st_rules.specs.Server.{ServerNode}
use Rattle.st_rules.specs.World.{World, node_of}
use Rattle.st_rules.specs.Safety.{Promise}

-- a page after one more entry, if that is hard
abbrev pub hard_after : FileId → PageNo → LogEntry → List ℕ → List ℕ
hard_after f p e page = if log.touches f p e && is_hard_fate e.fate then log.changed e.change page else page

-- a page after the hard ones of more entries
unfoldable pub hard_from : List ℕ → FileId → PageNo → List LogEntry → List ℕ
hard_from page f p [] = page
hard_from page f p (e ∷ es) = hard_from (hard_after f p e page) f p es

-- what the hard entries make of a page of zeros
abbrev pub hard_bytes : List LogEntry → FileId → PageNo → List ℕ
hard_bytes es f p = hard_from (filled 0) f p es

-- the extent of a page at a server that is there
abbrev pub extent_at : FileId → PageNo → Option ServerNode → Option Extent
extent_at f p None = None
extent_at f p (Some node) = extents.extent_of node.state.stable.extents f p

-- the extent of a page at its file's server
abbrev pub extent_in : World → FileId → PageNo → Option Extent
extent_in w f p = extent_at f p (node_of w f.server)

-- a tag names the page, and the birth of its extent
abbrev pub is_tag_of : FileId → PageNo → ℕ → Tag → Bool
is_tag_of f p birth tag = same_file tag.file f && (same_page tag.page p && (tag.birth == birth))

-- what a block holds of a page with an extent of this birth
abbrev pub held_in : FileId → PageNo → ℕ → Block → List ℕ
held_in f p birth b = if is_tag_of f p birth b.tag then b.bytes else filled 0

-- what the disks hold of a page with this extent
abbrev pub held_at : World → FileId → PageNo → Option Extent → List ℕ
held_at w f p None = filled 0
held_at w f p (Some e) = held_in f p e.birth (disks.block w.disks e.at)

-- the disks hold of a page what is hard
abbrev pub IsHeld : World → FileId × PageNo → Type 0
IsHeld w x = held_at w x.0 x.1 (extent_in w x.0 x.1) ≡ hard_bytes w.log x.0 x.1

-- of each of these pages
unfoldable pub AreHeld : World → List (FileId × PageNo) → Type 0
AreHeld w [] = ⊤
AreHeld w (x ∷ xs) = IsHeld w x × AreHeld w xs

-- the page of an extent
abbrev pub page_of_extent : Extent → FileId × PageNo
page_of_extent e = (e.file, e.page)

-- the page of an entry
abbrev pub page_of_entry : LogEntry → FileId × PageNo
page_of_entry e = (e.of.file, e.of.page)

-- the extents of a server
abbrev pub extents_of_node : ServerNode → List Extent
extents_of_node node = node.state.stable.extents.rows

-- the pages that servers map, and those that entries name
abbrev pub all_pages : World → List (FileId × PageNo)
all_pages w = map page_of_extent (flat_map extents_of_node w.servers) ++ map page_of_entry w.log

-- Disks hold what is hard: after every event, for each page that a server maps or an entry names, its block holds of it what the hard entries of the log make
-- of a page of zeros. A block holds of a page the bytes that lie there under the tag of the page's extent, and otherwise zeros; and so does a page without a
-- block.
abbrev pub DisksHoldWhatIsHard : Promise
DisksHoldWhatIsHard past x = AreHeld x.after.world (all_pages x.after.world)

-- opens all of this file
unfoldable pub held_open : ⊤
unfolding hard_from AreHeld
held_open = tt
