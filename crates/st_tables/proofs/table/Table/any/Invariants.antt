use Rattle.std.proofs.Common.{◌≡◌, take}
use Rattle.std.specs.List.{list_any}
use Rattle.std.specs.Map.{values_of}
use Rattle.st_tables.proofs.table.Table.any.Given as goal

abbrev pub invariant-loop-i : goal.invariant-loop-i
invariant-loop-i g l = l.found ≡ list_any (g.T.Test.passes l.test) (take l.i (values_of l.self-inside.rows.entries))
