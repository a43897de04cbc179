use Rattle.st_locks.proofs.UntouchedFiles.{full_settled, kept_installed}
use Rattle.st_locks.proofs.lock_table.LockTable.install.Goals as goal

pub invariant_of-self : goal.invariant_of-self
invariant_of-self c =
    kept_installed c.self.inside.parts.table c.install.new.self c.args.client c.args.life c.args.rows.now c.self.inside.parts.granting c.touch_rows.new.marks c.self.inside.parts.demanding c.touch_rows-in-Ok.new.marks c.self.inside.parts.waking c.self.inside.parts.besides.items c.self.invariant
    c.in-Ok.ensures c.touch_rows.ensures c.touch_rows-in-Ok.ensures

pub invariant_of-self-in-Err : goal.invariant_of-self-in-Err
invariant_of-self-in-Err c = full_settled c.install.new.self c.touch_all.new.self c.touch_all-in-Err.new.self c.self.inside.parts.waking c.self.inside.parts.besides.items c.touch_all.ensures c.touch_all-in-Err.ensures
