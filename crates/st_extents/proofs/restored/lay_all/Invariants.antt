use Rattle.std.proofs.Common.{◌≡◌, take}
use Rattle.st_extents.specs.Restored.{AreLaid}
use Rattle.st_extents.proofs.restored.lay_all.Given as goal

abbrev pub invariant-loop-place : goal.invariant-loop-place
invariant-loop-place l = record {
  own : l.mapping.own ≡ l.fn.mapping.own;
  rows : l.mapping.rows ≡ take l.place l.rows;
  laid : AreLaid l.fn.mapping.own l.mapping.births (take l.place l.rows);
}
