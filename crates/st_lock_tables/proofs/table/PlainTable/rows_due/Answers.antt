use Rattle.std.proofs.Common.{◌∙◌}
use Rattle.st_rules.specs.Keys.{client}
use Rattle.st_due.proofs.EarliestFound.{next_filtered}
use Rattle.st_due.specs.ServerDue.{demand_of_client}
use Rattle.st_lock_tables.proofs.table.PlainTable.rows_due.Goals as goal

pub loop-client-preserved : goal.loop-client-preserved
loop-client-preserved c =
    c.sooner-first.ensures
    ∙ next_filtered (demand_of_client c.args.config.now c.args.self.now c.args.ino c.args.to) c.args.clients.now c.loop-client.client-index (client 0) c.loop-client.first c.row_due.result
    c.loop-client-test.true c.loop-client.invariant c.row_due.ensures
