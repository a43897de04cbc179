use Rattle.std.proofs.Common.{◌≡◌, ◌≤◌, filter, length, take}
use Rattle.st_lock_tables.specs.Calls.{has_no_row}
use Rattle.st_lock_tables.proofs.table.count_alone.Given as goal

abbrev pub invariant-loop-ino : goal.invariant-loop-ino
invariant-loop-ino l = record {
  counted : l.count ≡ length (filter (has_no_row l.rows l.client) (take l.ino-index l.files));
  few : l.count ≤ l.ino-index;
}
