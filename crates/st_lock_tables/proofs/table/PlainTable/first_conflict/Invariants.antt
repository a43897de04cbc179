use Rattle.std.proofs.Common.{◌≡◌, drop}
use Rattle.st_rules.specs.Locks.{first_conflict}
use Rattle.st_lock_tables.proofs.table.PlainTable.first_conflict.Given as goal

abbrev pub invariant-loop-row : goal.invariant-loop-row
invariant-loop-row l = first_conflict l.self l.client (drop l.row-index l.rows) ≡ first_conflict l.self l.client l.rows
