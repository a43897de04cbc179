use Rattle.std.proofs.Common.{◌≡◌, ◌≤◌, ◌++◌, length, map, take}
use Rattle.std.specs.Prelude.{filter}
use Rattle.st_rules.specs.ClientState.{answer_to}
use Rattle.st_operations.proofs.operations.answer_rows.Given as goal

abbrev pub invariant-loop-i : goal.invariant-loop-i
invariant-loop-i g l = record {
  told : l.out.items ≡ l.fn.out.items ++ map (answer_to l.answer) (filter (g.T.Test.passes l.test) (take l.i l.rows));
  grows : length l.fn.out.items ≤ length l.out.items;
}
