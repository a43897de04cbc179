-- How a server's disks are laid out, and what calls of extents answer.
use Rattle.std.specs.Prelude.{ℕ, ◌≡◌, ◌≤◌, Bool, not, List, filter, find, is_some, false, Result, Ok, Err}
use Rattle.std.specs.List.{AllByRecursion, IsDistinct, list_any}
use Rattle.st_base.specs.declared.ids.ServerId.{ServerId}
use Rattle.st_base.specs.declared.ids.FileId.{FileId}
use Rattle.st_base.specs.declared.ids.PageNo.{PageNo}
use Rattle.st_rules.specs.declared.extents.Extent.{Extent}
use Rattle.st_rules.specs.declared.extents.AllocateRefusal.{AllocateRefusal}
use Rattle.st_rules.specs.declared.extents.AllocateRefusal.TheVariants.{NoSpace}
use Rattle.st_extents.specs.declared.refusal.ExtentRefusal.{ExtentRefusal}
use Rattle.st_extents.specs.declared.refusal.ExtentRefusal.TheVariants as refusals
use Rattle.st_base.specs.declared.disk.BlockAt.{BlockAt}
use Rattle.st_rules.specs.Extents.{Extents, is_extent_of, lies_at, no_extents, own_blocks, pages_from, place_pages}
use Rattle.st_rules.specs.Keys.{same_page}
use Rattle.st_extents.specs.Ownership.{IsSound}
use Rattle.st_extents.specs.Places.{Mapping}

-- the counts of a world, at one server
pub record Shape : Type 0 where
  pub server : ServerId
  pub servers : ℕ
  pub disks : ℕ
  pub blocks : ℕ

-- the extents of a server with this shape, these mapped pages and this many births
abbrev pub with_shape : Shape → List Extent → ℕ → Extents
with_shape l rows births = record { server = l.server; servers = l.servers; disks = l.disks; blocks = l.blocks; rows = rows; births = births }

-- the counts are within the limits: 1 to 4 servers, at least a disk for each server and at most 8 disks, 1 to 4,096 blocks
pub record IsWithinLimits (server servers disks blocks : ℕ) : Type 0 where
  pub some_server : 1 ≤ server
  pub known_server : server ≤ servers
  pub few_servers : servers ≤ 4
  pub disk_each : servers ≤ disks
  pub few_disks : disks ≤ 8
  pub some_block : 1 ≤ blocks
  pub few_blocks : blocks ≤ 4096

-- none of these extents lies on the block
abbrev pub none_at : List Extent → BlockAt → Bool
none_at rows b = not (list_any (lies_at b) rows)

-- these pages differ, and none has an extent among these
pub record AreFresh (rows : List Extent) (f : FileId) (ps : List PageNo) : Type 0 where
  pub unmapped : AllByRecursion (λ q. is_some (find (is_extent_of f q) rows) ≡ false) ps
  pub apart : IsDistinct same_page ps

-- what the calls keep: the blocks are the server's own, and the extents are sound
pub record IsKept (s : Shape) (g : Mapping) : Type 0 where
  pub own : g.own ≡ own_blocks (no_extents s.server s.servers s.disks s.blocks)
  pub sound : IsSound (with_shape s g.rows g.births)

-- the pages of a range that have no block, by the mapped pages
abbrev pub unmapped_of : List Extent → FileId → PageNo → ℕ → List PageNo
unmapped_of rows f p count = filter (λ q. not (is_some (find (is_extent_of f q) rows))) (pages_from p count)

-- after these pages were mapped one after another, what results is what the definition gives
abbrev pub PlacesAll : Mapping → Mapping → FileId → List PageNo → Type 0
PlacesAll old new f ps =
    (s : Shape) → old.own ≡ own_blocks (no_extents s.server s.servers s.disks s.blocks)
    → with_shape s new.rows new.births ≡ place_pages f ps (with_shape s old.rows old.births)

-- What a call that maps pages answers and leaves: what the rule gives; and if the rule refuses, or the call runs out of
-- memory, nothing is changed.
abbrev pub Allocates : Extents → Extents → Result Unit ExtentRefusal → Result Extents AllocateRefusal → Type 0
Allocates old new (Ok done) rule = rule ≡ Ok new
Allocates old new (Err refusals.Memory) rule = new ≡ old
Allocates old new (Err (refusals.NoSpace free asked)) rule = (rule ≡ Err (NoSpace free asked)) × (new ≡ old)
