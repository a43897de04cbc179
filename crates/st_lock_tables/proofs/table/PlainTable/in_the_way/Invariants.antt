use Rattle.std.proofs.Common.{◌≡◌, map, filter}
use Rattle.st_rules.specs.Keys.{client}
use Rattle.st_tables.proofs.RisingKeys.{numbers}
use Rattle.st_lock_tables.proofs.Ways.{in_way}
use Rattle.st_lock_tables.proofs.table.PlainTable.in_the_way.Given as goal

abbrev pub invariant-loop-i : goal.invariant-loop-i
invariant-loop-i l = l.found.items ≡ map client (filter (in_way l.client l.ino l.mode l.self-inside.rows l.self-inside.waits) (numbers 1 l.i))
