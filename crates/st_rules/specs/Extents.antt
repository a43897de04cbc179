-- Extents: on which block each page of a server's files lies, and under which birth.
use Rattle.std.specs.Prelude.{ℕ, zero, suc, ◌+◌, ◌%◌, Bool, ◌&&◌, not, ◌==◌, nat_le, if◌then◌else◌, List, [], ◌∷◌, ◌++◌, length, find, filter, filter_map, flat_map, map, Option, is_some, option_map, Result, Ok, Err, ⊤}
use Rattle.std.specs.List.{list_any}
use Rattle.st_base.specs.declared.ids.ServerId.{ServerId}
use Rattle.st_base.specs.declared.ids.FileId.{FileId}
use Rattle.st_base.specs.declared.ids.PageNo.{PageNo}
use Rattle.st_base.specs.declared.disk.BlockAt.{BlockAt}
use Rattle.st_base.specs.declared.rows.ExtentRow.{ExtentRow}
use Rattle.st_rules.specs.declared.extents.Extent.{Extent}
use Rattle.st_rules.specs.declared.extents.AllocateRefusal.{AllocateRefusal}
use Rattle.st_rules.specs.declared.extents.AllocateRefusal.TheVariants.{NoSpace}
use Rattle.st_rules.specs.Keys.{same_file, same_page, same_block, page_no}

-- The extents of a server: the counts of the world's servers, disks and blocks, the mapped pages, and how many births
-- were given.
pub record Extents : Type 0 where
  pub server : ServerId
  pub servers : ℕ
  pub disks : ℕ
  pub blocks : ℕ
  pub rows : List Extent
  pub births : ℕ

-- nothing is mapped
abbrev pub no_extents : ServerId → ℕ → ℕ → ℕ → Extents
no_extents server servers disks blocks = record { server = server; servers = servers; disks = disks; blocks = blocks; rows = []; births = 0 }

-- Map: the block and the birth of a page.
abbrev pub is_extent_of : FileId → PageNo → Extent → Bool
is_extent_of f p e = same_file e.file f && same_page e.page p

-- the extent of a page
abbrev pub extent_of : Extents → FileId → PageNo → Option Extent
extent_of x f p = find (is_extent_of f p) x.rows

-- what is reported about an extent
abbrev pub place_and_birth : Extent → BlockAt × ℕ
place_and_birth e = (e.at, e.birth)

-- Map: the block and the birth of a page
abbrev pub map_page : Extents → FileId → PageNo → Option (BlockAt × ℕ)
map_page x f p = option_map place_and_birth (extent_of x f p)

-- the page has a block
abbrev pub is_mapped : Extents → FileId → PageNo → Bool
is_mapped x f p = is_some (extent_of x f p)

-- Free blocks: those of this server's disks that no page has, by rising disk and then block. Disk d belongs
-- to server 1 + (d - 1) mod servers.
unfoldable pub numbers : ℕ → ℕ → List ℕ
numbers first zero = []
numbers first (suc n) = first ∷ numbers (first + 1) n

-- a disk of this server, by its place
abbrev pub is_own_disk : Extents → ℕ → Bool
is_own_disk x place = place % x.servers + 1 == x.server.0

-- a block of a disk, by its place
abbrev pub block_at : ℕ → ℕ → BlockAt
block_at place block = record { disk = record { 0 = place + 1 }; block = block }

-- disks here go by their places from 0
abbrev pub blocks_of : Extents → ℕ → List BlockAt
blocks_of x place = map (block_at place) (numbers 0 x.blocks)

-- all blocks of this server's disks, in order
unfoldable pub own_blocks : Extents → List BlockAt
own_blocks x = flat_map (blocks_of x) (filter (is_own_disk x) (numbers 0 x.disks))

-- a page lies on the block
abbrev pub lies_at : BlockAt → Extent → Bool
lies_at b e = same_block e.at b

-- no page lies on the block
abbrev pub is_free : Extents → BlockAt → Bool
is_free x b = not (list_any (lies_at b) x.rows)

-- the free blocks, in order
unfoldable pub free_blocks : Extents → List BlockAt
free_blocks x = filter (is_free x) (own_blocks x)

-- how many blocks are free
abbrev pub free : Extents → ℕ
free x = length (free_blocks x)

-- Allocate: each unmapped page of the range, in rising order, gets the first free block and the next birth; or none does,
-- if the free blocks are too few. A birth is never given twice.
abbrev pub new_extent : Extents → FileId → PageNo → BlockAt → Extent
new_extent x f p b = record { file = f; page = p; at = b; birth = x.births + 1 }

-- one more page is mapped, under the next birth
abbrev pub with_extent : Extent → Extents → Extents
with_extent e x = record x { rows = x.rows ++ e ∷ []; births = x.births + 1 }

-- the page is mapped to the first of these blocks
unfoldable pub place_on : Extents → FileId → PageNo → List BlockAt → Extents
place_on x f p [] = x
place_on x f p (b ∷ bs) = with_extent (new_extent x f p b) x

-- the pages are mapped one after another
unfoldable pub place_pages : FileId → List PageNo → Extents → Extents
place_pages f [] x = x
place_pages f (p ∷ ps) x = place_pages f ps (place_on x f p (free_blocks x))

-- this number of pages from a page on
abbrev pub pages_from : PageNo → ℕ → List PageNo
pages_from p count = map page_no (numbers p.0 count)

-- the pages of a range that have no block
abbrev pub unmapped : Extents → FileId → PageNo → ℕ → List PageNo
unmapped x f p count = filter (λ q. not (is_mapped x f q)) (pages_from p count)

-- all of these pages are mapped, or none
unfoldable pub allocate_pages : Extents → FileId → List PageNo → Result Extents AllocateRefusal
allocate_pages x f ps = if nat_le (length ps) (free x) then Ok (place_pages f ps x) else Err (NoSpace (free x) (length ps))

-- Allocate: the unmapped pages of a range
unfoldable pub allocate : Extents → FileId → PageNo → ℕ → Result Extents AllocateRefusal
allocate x f p count = allocate_pages x f (unmapped x f p count)

-- Release: every page of the file from there on is unmapped, and its block is free.
abbrev pub is_at_or_behind : FileId → PageNo → Extent → Bool
is_at_or_behind f p e = same_file e.file f && nat_le p.0 e.page.0

-- Release: the pages from there on are unmapped
unfoldable pub release_from : Extents → FileId → PageNo → Extents
release_from x f p = record x { rows = filter (λ e. not (is_at_or_behind f p e)) x.rows }

-- What a reply says about a range of pages: the mapped ones, in rising order.
abbrev pub extent_row : Extent → ExtentRow
extent_row e = record { page = e.page; at = e.at; birth = e.birth }

-- what is reported about a page
abbrev pub extent_row_at : Extents → FileId → PageNo → Option ExtentRow
extent_row_at x f p = option_map extent_row (extent_of x f p)

-- what is reported about a range of pages
unfoldable pub extent_rows : Extents → FileId → PageNo → ℕ → List ExtentRow
extent_rows x f p count = filter_map (extent_row_at x f) (pages_from p count)

-- opens all of this file
unfoldable pub extents_open : ⊤
unfolding numbers own_blocks free_blocks place_on place_pages allocate_pages allocate release_from extent_rows
extents_open = tt
