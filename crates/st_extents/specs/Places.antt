-- The places of a server's blocks, and the pages that are mapped to them.
use Rattle.std.specs.Prelude.{ℕ, ◌≡◌, ◌<◌, ◌+◌, ◌*◌, ◌++◌, Bool, true, List, [], ◌∷◌, length, get_or, ⊤}
use Rattle.std.specs.List.{IsDistinct, AllByRecursion, list_any}
use Rattle.st_base.specs.declared.disk.BlockAt.{BlockAt}
use Rattle.st_rules.specs.declared.extents.Extent.{Extent}
use Rattle.st_base.specs.declared.ids.FileId.{FileId}
use Rattle.st_base.specs.declared.ids.PageNo.{PageNo}
use Rattle.st_rules.specs.Extents.{lies_at}
use Rattle.st_rules.specs.Keys.{same_block}
use Rattle.st_extents.specs.Ownership.{of_one_page, on_one_block}
use Rattle.st_extents.specs.Runs.{RunKey, mapped_to}
use Rattle.st_extents.specs.declared.run_map.Run.{Run}

-- a block's number among the blocks of all disks, if a disk has at most 2^32 blocks
abbrev pub rank : BlockAt → ℕ
rank b = b.disk.0 * 4294967296 + b.block

-- blocks by rising disk and then by rising number
abbrev pub AreInOrder : List BlockAt → Type 0
AreInOrder [] = ⊤
AreInOrder (b ∷ bs) = AllByRecursion (λ c. rank b < rank c) bs × AreInOrder bs

-- the block is one of these
abbrev pub is_among : List BlockAt → BlockAt → Bool
is_among own at = list_any (λ b. same_block b at) own

-- the server's blocks are in order; each mapped page lies on one of them, no page is mapped twice, and no block has two
-- pages; a place is taken exactly if its block has a page
pub record IsLaid (own : List BlockAt) (taken : List Bool) (rows : List Extent) : Type 0 where
  pub order : AreInOrder own
  pub as_long : length taken ≡ length own
  pub among : AllByRecursion (λ e. is_among own e.at ≡ true) rows
  pub pages : IsDistinct of_one_page rows
  pub once : IsDistinct on_one_block rows
  pub told : (i : ℕ) (d : Bool) (b : BlockAt) → i < length own → get_or taken i d ≡ list_any (lies_at (get_or own i b)) rows

-- a server's own blocks, its mapped pages, how many births were given, and the runs of the pages
pub record Mapping : Type 0 where
  pub own : List BlockAt
  pub rows : List Extent
  pub births : ℕ
  pub runs : List (RunKey × Run)

-- after a page was mapped to the first of these blocks, the mapped pages
abbrev pub IsMapped : List Extent → FileId → PageNo → ℕ → List BlockAt → List Extent → Type 0
IsMapped rows f p birth [] after = after ≡ rows
IsMapped rows f p birth (b ∷ bs) after = after ≡ rows ++ mapped_to f p b birth ∷ []

-- the rows, with one more for this page
abbrev pub HasOneMore : List Extent → ℕ → FileId → PageNo → List Extent → Type 0
HasOneMore rows birth f p after = (b : BlockAt) × (after ≡ rows ++ mapped_to f p b birth ∷ [])

-- the page is last, under this birth
abbrev pub IsLastMapped : FileId → PageNo → ℕ → List Extent → Type 0
IsLastMapped f p birth after = (rows : List Extent) × HasOneMore rows birth f p after

-- the rows, with one more for each of these pages, under the next births
abbrev pub AreAdded : List Extent → ℕ → FileId → List PageNo → List Extent → Type 0
AreAdded rows births f [] after = after ≡ rows
AreAdded rows births f (p ∷ ps) after = (b : BlockAt) × AreAdded (rows ++ mapped_to f p b (births + 1) ∷ []) (births + 1) f ps after

-- these pages are last, in this order, under the last births
abbrev pub AreLastMapped : FileId → List PageNo → ℕ → List Extent → Type 0
AreLastMapped f ps given after = (rows : List Extent) × ((births : ℕ) × ((given ≡ births + length ps) × AreAdded rows births f ps after))

-- these pages, which were last in this order, are gone, and their births are taken back
abbrev pub TakesBack : Mapping → Mapping → FileId → List PageNo → Type 0
TakesBack old new f ps =
    (rows : List Extent) (births : ℕ) → old.births ≡ births + length ps → AreAdded rows births f ps old.rows
    → (new.rows ≡ rows) × (new.births ≡ births)
