use Rattle.std.proofs.Common.{sym, subst}
use Rattle.st_locks.proofs.UntouchedFiles.{kept_waited}
use Rattle.st_locks.proofs.SettledFiles.{SameOn, same_seen}
use Rattle.st_locks.proofs.lock_table.LockTable.answered.Goals as goal

pub invariant_of-self : goal.invariant_of-self
invariant_of-self c =
    kept_waited c.self.inside.parts.table c.answered.new.self c.args.ino c.self.inside.parts.granting c.self.inside.parts.demanding c.touch_waited.new.granting c.touch_waited.new.demanding c.self.inside.parts.waking c.self.inside.parts.besides.items c.self.invariant
    (λ j n. subst (SameOn j c.self.inside.parts.table) (sym c.answered.ensures) (same_seen c.self.inside.parts.table c.args.client c.args.ino j n c.args.g))
    c.touch_waited.ensures.granting c.touch_waited.ensures.demanding
