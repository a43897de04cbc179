use Rattle.std.proofs.Common.{take}
use Rattle.std.specs.Map.{values_of}
use Rattle.st_tables.proofs.Seconds.{AreSeconds}
use Rattle.st_tables.proofs.table.Table.seconds.Given as goal

abbrev pub invariant-loop-i : goal.invariant-loop-i
invariant-loop-i g l = AreSeconds g.V.Row.key_of (g.T.Test.passes l.test) l.found.items (take l.i (values_of l.self-inside.rows.entries))
