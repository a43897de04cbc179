use Rattle.std.proofs.Common.{◌≡◌, ◌<◌, ◌+◌, ◌^◌, length, drop}
use Rattle.st_rules.specs.Locks.{grant_files}
use Rattle.st_lock_tables.specs.Calls.{granting}
use Rattle.st_locks.proofs.lock_table.LockTable.grant_each.Given as goal

abbrev pub invariant-loop-ino : goal.invariant-loop-ino
invariant-loop-ino l = record {
  passes : grant_files (drop l.ino-index l.files) (granting l.self l.granted.items) ≡ grant_files l.files (granting l.fn.self l.fn.granted.items);
  room : l.self.grants + length l.self.waiters < 2 ^ 32;
}
