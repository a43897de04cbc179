use Rattle.std.proofs.Common.{◌∙◌, List, OnOk, subst}
use Rattle.st_base.specs.declared.ids.ClientId.{ClientId}
use Rattle.st_lock_tables.specs.Calls.{demanding}
use Rattle.st_locks.specs.SettledFiles.{TimesRows}
use Rattle.st_locks.proofs.Demanded.{on_two, times_file}
use Rattle.st_locks.proofs.demands.demand_for.Goals as goal

pub returns-clause-timed : goal.returns-clause-timed
returns-clause-timed c =
    on_two c.time_rows.result
    (times_file c.args.pass.config c.args.pass.now c.args.pass.tick c.args.suspects.now c.args.ino (demanding c.args.table.now c.args.due.now.items) c.args.waking.now c.time_rows.new.waking c.demand_for.new.self c.demand_for.new.due.items c.in_ok-clients.ensures.due)
    c.time_rows.ensures.all
    (subst (λ (cs : List ClientId). OnOk c.time_rows.result (TimesRows c.demand_for.new.self cs c.args.ino c.time_rows.new.waking)) (c.as_slice.ensures.value ∙ c.in_ok-clients.ensures.clients) c.time_rows.ensures.timed)
