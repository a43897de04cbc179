use Rattle.std.proofs.Common.{◌≡◌, take}
use Rattle.std.specs.List.{flat_map}
use Rattle.st_due.specs.Moments.{earliest, readable_by}
use Rattle.st_due.specs.ServerDue.{demands_on}
use Rattle.st_lock_tables.proofs.table.PlainTable.first_demand.Given as goal

abbrev pub invariant-loop-ino : goal.invariant-loop-ino
invariant-loop-ino l = l.first ≡ readable_by (earliest (flat_map (demands_on l.config l.self l.suspects) (take l.ino-index l.files)))
