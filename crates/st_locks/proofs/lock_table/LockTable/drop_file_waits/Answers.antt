use Rattle.std.proofs.Common.{sym, subst}
use Rattle.st_rules.specs.Locks.{Locks}
use Rattle.st_locks.specs.SettledFiles.{IsSettled}
use Rattle.st_locks.proofs.UntouchedFiles.{kept_dropped}
use Rattle.st_locks.proofs.lock_table.LockTable.drop_file_waits.Goals as goal

pub invariant_of-self : goal.invariant_of-self
invariant_of-self c =
    subst (λ (m : Locks). IsSettled m c.self.inside.parts.granting c.self.inside.parts.demanding c.self.inside.parts.waking c.self.inside.parts.besides.items) (sym c.drop_file_waits.ensures)
    (kept_dropped c.self.inside.parts.table c.args.ino c.self.inside.parts.granting c.self.inside.parts.demanding c.self.inside.parts.waking c.self.inside.parts.besides.items c.self.invariant)
