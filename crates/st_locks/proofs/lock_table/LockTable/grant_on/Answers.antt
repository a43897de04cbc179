use Rattle.std.proofs.Common.{length, sym, ap, subst}
use Rattle.st_lock_tables.specs.Calls.{granting}
use Rattle.st_locks.proofs.SettledFiles.{SameOn, kept, same_grant_file}
use Rattle.st_locks.proofs.lock_table.LockTable.grant_on.Goals as goal

pub invariant_of-self : goal.invariant_of-self
invariant_of-self c =
    kept c.self.inside.parts.table c.grant_file.new.self c.args.ino c.self.inside.parts.granting c.self.inside.parts.demanding c.touch.new.self c.touch-2.new.self c.self.inside.parts.waking c.self.inside.parts.besides.items c.self.invariant
    (λ j n. subst (SameOn j c.self.inside.parts.table) (sym (ap (λ p. p.locks) c.in-Ok.ensures.ok)) (same_grant_file c.args.ino (length c.self.inside.parts.table.waiters) (granting c.self.inside.parts.table c.args.granted.now.items) j n))
    c.touch.ensures c.touch-2.ensures
