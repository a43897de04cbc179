use Rattle.std.proofs.Common.{◌≡◌, take}
use Rattle.std.specs.Prelude.{filter_map}
use Rattle.st_rules.specs.Locks.{row_at}
use Rattle.st_lock_tables.proofs.table.PlainTable.of.Given as goal

abbrev pub invariant-loop-ino : goal.invariant-loop-ino
invariant-loop-ino l = l.found.items ≡ filter_map (row_at l.self l.client) (take l.ino-index l.ino-items)
