use Rattle.std.proofs.Common.{◌≡◌, take}
use Rattle.st_namespace.specs.Restored.{AreRestored}
use Rattle.st_namespace.proofs.restored.restored.Given as goal

abbrev pub invariant-loop-place : goal.invariant-loop-place
invariant-loop-place l = record {
  same : l.entries ≡ take l.place l.rows;
  right : AreRestored l.low l.next (take l.place l.rows);
}
