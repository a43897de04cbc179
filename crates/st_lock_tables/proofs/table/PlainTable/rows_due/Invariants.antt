use Rattle.std.proofs.Common.{◌≡◌, take}
use Rattle.std.specs.Prelude.{filter_map}
use Rattle.st_due.specs.Moments.{earliest, readable_by}
use Rattle.st_due.specs.ServerDue.{demand_of_client}
use Rattle.st_lock_tables.proofs.table.PlainTable.rows_due.Given as goal

abbrev pub invariant-loop-client : goal.invariant-loop-client
invariant-loop-client l = l.first ≡ readable_by (earliest (filter_map (demand_of_client l.config l.self l.ino l.to) (take l.client-index l.clients)))
