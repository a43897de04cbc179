use Rattle.std.proofs.Common.{◌≡◌, ◌<◌, ◌+◌, ◌^◌, length}
use Rattle.st_rules.specs.Locks.{grant_file}
use Rattle.st_lock_tables.specs.Calls.{granting}
use Rattle.st_lock_tables.proofs.table.PlainTable.grant_file.Given as goal

abbrev pub invariant-loop-left : goal.invariant-loop-left
invariant-loop-left l = record {
  passes : grant_file l.ino l.left (granting l.self l.granted.items) ≡ grant_file l.ino (length l.fn.self.waiters) (granting l.fn.self l.fn.granted.items);
  room : l.self.grants + length l.self.waiters < 2 ^ 32;
}

abbrev pub decreases-loop-left : goal.decreases-loop-left
decreases-loop-left l = l.left
