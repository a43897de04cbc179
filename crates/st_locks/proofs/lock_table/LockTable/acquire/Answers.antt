use Rattle.st_locks.proofs.UntouchedFiles.{kept_waited}
use Rattle.st_locks.proofs.SettledFiles.{same_acquired}
use Rattle.st_locks.proofs.lock_table.LockTable.acquire.Goals as goal

pub invariant_of-self : goal.invariant_of-self
invariant_of-self c =
    kept_waited c.self.inside.parts.table c.acquire-verdict.new.self c.args.ino c.self.inside.parts.granting c.self.inside.parts.demanding c.touch_waited.new.granting c.touch_waited.new.demanding c.self.inside.parts.waking c.self.inside.parts.besides.items c.self.invariant
    (λ j n. same_acquired c.self.inside.parts.table c.args.client c.args.ino j n c.args.life c.args.mode c.args.grants c.acquire-verdict.new.self c.acquire-verdict.result c.acquire-verdict.ensures)
    c.touch_waited.ensures.granting c.touch_waited.ensures.demanding
