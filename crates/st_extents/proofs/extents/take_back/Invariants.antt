use Rattle.std.proofs.Common.{◌≡◌, ◌+◌, ◌≤◌, ℕ, List, length, take}
use Rattle.st_rules.specs.declared.extents.Extent.{Extent}
use Rattle.st_extents.specs.Places.{AreAdded, AreLastMapped}
use Rattle.st_extents.proofs.extents.take_back.Given as goal

abbrev pub invariant-loop-left : goal.invariant-loop-left
invariant-loop-left l = record {
  own : l.mapping.own ≡ l.fn.mapping.own;
  last : AreLastMapped l.file (take l.left l.pages) l.mapping.births l.mapping.rows;
  within : l.left ≤ length l.pages;
  back : (rows : List Extent) (births : ℕ) → l.fn.mapping.births ≡ births + length l.pages → AreAdded rows births l.file l.pages l.fn.mapping.rows → (l.mapping.births ≡ births + l.left) × AreAdded rows births l.file (take l.left l.pages) l.mapping.rows;
}

abbrev pub decreases-loop-left : goal.decreases-loop-left
decreases-loop-left l = l.left
