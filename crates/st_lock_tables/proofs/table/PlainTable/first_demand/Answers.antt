use Rattle.std.proofs.Common.{◌∙◌}
use Rattle.st_due.proofs.EarliestFound.{next_joined}
use Rattle.st_due.specs.ServerDue.{demands_on}
use Rattle.st_lock_tables.proofs.table.PlainTable.first_demand.Goals as goal

pub loop-ino-preserved : goal.loop-ino-preserved
loop-ino-preserved c =
    c.sooner-first.ensures
    ∙ next_joined (demands_on c.args.config.now c.args.self.now c.args.suspects.now) c.args.files.now c.loop-ino.ino-index 0 c.loop-ino.first c.in_ok-due.due
    c.loop-ino-test.true c.loop-ino.invariant c.in_ok-due.ensures
