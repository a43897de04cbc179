use Rattle.std.proofs.Common.{◌≡◌, ◌≤◌, length, take}
use Rattle.std.specs.Prelude.{filter}
use Rattle.st_operations.proofs.operations.Operations.count.Given as goal

abbrev pub invariant-loop-i : goal.invariant-loop-i
invariant-loop-i g l = record {
  counted : l.count ≡ length (filter (g.T.Test.passes l.test) (take l.i l.self));
  few : l.count ≤ l.i;
}
