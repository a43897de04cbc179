use Rattle.std.proofs.Common.{sym, subst}
use Rattle.st_rules.specs.Locks.{Locks}
use Rattle.st_locks.specs.SettledFiles.{IsSettled}
use Rattle.st_locks.proofs.UntouchedFiles.{kept_waits}
use Rattle.st_locks.proofs.lock_table.LockTable.drop_waits.Goals as goal

pub invariant_of-self : goal.invariant_of-self
invariant_of-self c =
    subst (λ (m : Locks). IsSettled m c.touch_waits.new.marks c.touch_waits-2.new.marks c.self.inside.parts.waking c.self.inside.parts.besides.items) (sym c.drop_waits.ensures)
    (kept_waits c.self.inside.parts.table c.args.client c.self.inside.parts.granting c.touch_waits.new.marks c.self.inside.parts.demanding c.touch_waits-2.new.marks c.self.inside.parts.waking c.self.inside.parts.besides.items c.self.invariant
    c.touch_waits.ensures c.touch_waits-2.ensures)
