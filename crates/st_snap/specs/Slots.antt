-- Slots: numbered pages of bytes, each on a block of its own.
use Rattle.std.specs.Prelude.{ℕ, ◌≡◌, ◌≤◌, ◌<◌, ◌^◌, ◌==◌, ◌++◌, ◌∷◌, [], List, map, Option}
use Rattle.std.specs.Map.{lookup}
use Rattle.std.specs.List.{AllByRecursion}
use Rattle.st_base.specs.declared.ids.FileId.{FileId}
use Rattle.st_rules.specs.declared.extents.Extent.{Extent}
use Rattle.st_rules.specs.Extents.{Extents}
use Rattle.st_rules.specs.Disks.{Disks, block}
use Rattle.st_extents.specs.Ownership.{IsOwned}

-- how many blocks there are, and the bytes of each slot by its number
pub record Slots : Type 0 where
  pub blocks : ℕ
  pub pages : List (ℕ × List ℕ)

-- the bytes of a slot
abbrev pub slot_at : List (ℕ × List ℕ) → ℕ → Option (List ℕ)
slot_at pages slot = lookup (λ other. slot == other) pages

-- a slot's block is that of page 0 of the inode with the slot's number
abbrev pub slot_file : ℕ → FileId
slot_file slot = record { server = record { 0 = 1 }; ino = slot }

-- the slot of an extent, with the bytes of its block
abbrev pub slot_of : Disks → Extent → ℕ × List ℕ
slot_of d e = (e.file.ino, (block d e.at).bytes)

-- the slots of the mapped pages
abbrev pub slots_of : Disks → List Extent → List (ℕ × List ℕ)
slots_of d rows = map (slot_of d) rows

-- the slots, with one more, whatever its bytes are
abbrev pub HasOneMore : List (ℕ × List ℕ) → ℕ → List (ℕ × List ℕ) → Type 0
HasOneMore pages slot after = (bytes : List ℕ) × (after ≡ pages ++ (slot, bytes) ∷ [])

-- the extent is page 0 of an inode that was given as a slot
pub record IsSlot (last : ℕ) (e : Extent) : Type 0 where
  pub server : e.file.server.0 ≡ 1
  pub page : e.page.0 ≡ 0
  pub given : e.file.ino ≤ last

-- one server and one disk; what is mapped are slots, of which this many were given
pub record AreSlots (x : Extents) (d : Disks) (last : ℕ) : Type 0 where
  pub server : x.server.0 ≡ 1
  pub servers : x.servers ≡ 1
  pub disks : x.disks ≡ 1
  pub some : 1 ≤ x.blocks
  pub few : x.blocks ≤ 4096
  pub disk : d.disks ≡ 1
  pub blocks : d.blocks ≡ x.blocks
  pub owned : IsOwned x
  pub slots : AllByRecursion (IsSlot last) x.rows
  pub births : x.births ≡ last
  pub fits : last < 2 ^ 32
