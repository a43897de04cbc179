use Rattle.std.proofs.Common.{subst}
use Rattle.st_rules.specs.ServerInvariants.{IsLockTable}
use Rattle.st_lock_tables.proofs.Sound.{valid}
use Rattle.st_lock_tables.proofs.table.PlainTable.epoch.Goals as goal

pub returns-clause-valid : goal.returns-clause-valid
returns-clause-valid c =
    subst IsLockTable c.self.view_is
    (valid c.self.inside.epoch c.self.inside.grants c.self.inside.rows c.self.inside.waits c.self.invariant c.len-rows.ensures.distinct c.len-waits.ensures.distinct)
