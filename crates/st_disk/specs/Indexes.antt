-- The blocks that were written, by their places.
use Rattle.std.specs.Prelude.{◌≡◌, ℕ, Bool, ◌&&◌, ◌==◌, List}
use Rattle.std.specs.List.{position}
use Rattle.indexmap.specs.IndexMap.{IndexMap, get}
use Rattle.st_base.specs.declared.disk.BlockAt.{BlockAt}
use Rattle.st_disk.specs.declared.blocks.PlaceKey.{PlaceKey}
use Rattle.st_rules.specs.declared.disks.Block.{Block}
use Rattle.st_rules.specs.Disks.{is_block_at}

-- one key
abbrev pub same_place : PlaceKey → PlaceKey → Bool
same_place a b = (a.disk == b.disk) && (a.block == b.block)

-- the key of a place
abbrev pub place_key : BlockAt → PlaceKey
place_key at = record { disk = at.disk.0; block = at.block }

-- the index of each block is kept under its place
abbrev pub IsIndexed : {S : Type 0} → List Block → IndexMap PlaceKey ℕ S → Type 0
IsIndexed bs m = (at : BlockAt) → get same_place m (place_key at) ≡ position (is_block_at at) bs
