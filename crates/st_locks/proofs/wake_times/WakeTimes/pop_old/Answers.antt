use Rattle.std.proofs.Common.{◌∙◌, sym}
use Rattle.st_locks.proofs.Moments.{none_old}
use Rattle.st_locks.proofs.wake_times.WakeTimes.pop_old.Goals as goal

pub returns-else-passed-clause-none : goal.returns-else-passed-clause-none
returns-else-passed-clause-none c =
    rw (← c.self.view_is)
    (none_old c.args.pass.config c.args.pass.now c.in_ok-first.field-0.now c.self.inside.moments.keys c.in_ok-first.ensures.all_from
    (sym c.passed.ensures ∙ c.if-passed.false))
