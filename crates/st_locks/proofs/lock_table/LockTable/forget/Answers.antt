use Rattle.std.proofs.Common.{sym, subst}
use Rattle.st_rules.specs.Locks.{Locks}
use Rattle.st_locks.specs.SettledFiles.{IsSettled}
use Rattle.st_locks.proofs.UntouchedFiles.{kept_forgotten}
use Rattle.st_locks.proofs.lock_table.LockTable.forget.Goals as goal

pub invariant_of-self : goal.invariant_of-self
invariant_of-self c =
    subst (λ (m : Locks). IsSettled m c.touch_waits.new.marks c.touch_waits-2.new.marks c.self.inside.parts.waking c.self.inside.parts.besides.items) (sym c.forget.ensures)
    (kept_forgotten c.self.inside.parts.table c.args.client c.self.inside.parts.granting c.touch_locks.new.marks c.touch_waits.new.marks c.self.inside.parts.demanding c.touch_locks-2.new.marks c.touch_waits-2.new.marks c.self.inside.parts.waking c.self.inside.parts.besides.items c.self.invariant
    c.touch_locks.ensures c.touch_waits.ensures c.touch_locks-2.ensures c.touch_waits-2.ensures)
