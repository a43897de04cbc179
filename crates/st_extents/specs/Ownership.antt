-- Ownership: each mapped page has one block and one birth, no block is mapped twice, and a birth is never given twice.
use Rattle.std.specs.Prelude.{◌≡◌, ◌≤◌, ◌<◌, ◌^◌, Bool, true, ◌==◌, All, length}
use Rattle.std.specs.List.{IsDistinct, list_any}
use Rattle.st_base.specs.declared.disk.BlockAt.{BlockAt}
use Rattle.st_rules.specs.declared.extents.Extent.{Extent}
use Rattle.st_rules.specs.Extents.{Extents, is_extent_of, lies_at, own_blocks}
use Rattle.st_rules.specs.Keys.{same_block}

-- two extents are of one page
abbrev pub of_one_page : Extent → Extent → Bool
of_one_page a b = is_extent_of a.file a.page b

-- two extents lie on one block
abbrev pub on_one_block : Extent → Extent → Bool
on_one_block a b = lies_at a.at b

-- two extents have one birth
abbrev pub of_one_birth : Extent → Extent → Bool
of_one_birth a b = b.birth == a.birth

-- the block is one of this server's disks
abbrev pub is_own_block : Extents → BlockAt → Bool
is_own_block x b = list_any (λ a. same_block a b) (own_blocks x)

-- the ownership of extents: a page is mapped once, a block holds one page, a birth belongs to one page; no birth is above the
-- number of births; and the blocks are on this server's disks
pub record IsOwned (x : Extents) : Type 0 where
  pub pages : IsDistinct of_one_page x.rows
  pub blocks : IsDistinct on_one_block x.rows
  pub births : IsDistinct of_one_birth x.rows
  pub given : All (λ e. e.birth ≤ x.births) x.rows
  pub own : All (λ e. is_own_block x e.at ≡ true) x.rows

-- what always holds of extents: they are owned, and there are fewer than 2^63 births and at most 32,768 blocks
pub record IsSound (x : Extents) : Type 0 where
  pub owned : IsOwned x
  pub counted : x.births < 2 ^ 63
  pub few : length (own_blocks x) ≤ 32768
