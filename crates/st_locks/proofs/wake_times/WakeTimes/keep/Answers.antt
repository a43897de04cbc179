use Rattle.st_locks.proofs.Moments.{by_own, keeps_put, kept_put}
use Rattle.st_locks.proofs.wake_times.WakeTimes.keep.Goals as goal

pub returns-clause-all : goal.returns-clause-all
returns-clause-all c = rw (← c.self.view_is) (keeps_put c.self.inside.moments c.insert.new.self (c.args.sent, c.args.ino) c.in_ok-insert.ensures.updates.0)

pub returns-clause-kept : goal.returns-clause-kept
returns-clause-kept c =
    kept_put c.self.inside.moments c.insert.new.self (c.args.sent, c.args.ino) c.in_ok-insert.ensures.updates.0 c.args.ino c.args.sent
    (by_own c.args.ino c.args.sent)
