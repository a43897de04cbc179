use Rattle.std.proofs.Common.{◌≡◌, ◌++◌, map, take}
use Rattle.st_rules.specs.Locks.{installed}
use Rattle.st_lock_tables.proofs.table.PlainTable.push_rows.Given as goal

abbrev pub invariant-loop-row : goal.invariant-loop-row
invariant-loop-row l = l.self ≡ record l.fn.self { rows = l.fn.self.rows ++ map (installed l.client l.life) (take l.row-index l.rows) }
