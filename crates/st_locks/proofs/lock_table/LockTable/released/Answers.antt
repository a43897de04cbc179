use Rattle.std.proofs.Common.{ap, subst}
use Rattle.st_locks.proofs.UntouchedFiles.{kept_waited}
use Rattle.st_locks.proofs.SettledFiles.{SameOn, same_released}
use Rattle.st_locks.proofs.lock_table.LockTable.released.Goals as goal

pub invariant_of-self : goal.invariant_of-self
invariant_of-self c =
    kept_waited c.self.inside.parts.table c.released-found.new.self c.args.ino c.self.inside.parts.granting c.self.inside.parts.demanding c.touch_waited.new.granting c.touch_waited.new.demanding c.self.inside.parts.waking c.self.inside.parts.besides.items c.self.invariant
    (λ j n. subst (SameOn j c.self.inside.parts.table) (ap (λ r. r.locks) c.released-found.ensures) (same_released c.self.inside.parts.table c.args.client c.args.ino j n c.args.life c.args.g c.args.to))
    c.touch_waited.ensures.granting c.touch_waited.ensures.demanding
