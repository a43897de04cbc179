use Rattle.std.proofs.Common.{◌≡◌, take}
use Rattle.std.specs.List.{list_any}
use Rattle.st_due.specs.ServerDue.{may_grant_on}
use Rattle.st_lock_tables.proofs.table.PlainTable.may_grant_one.Given as goal

abbrev pub invariant-loop-ino : goal.invariant-loop-ino
invariant-loop-ino l = l.found ≡ list_any (may_grant_on l.self) (take l.ino-index l.files)
