use Rattle.st_lock_tables.specs.Calls.{demanding, files_demanded}
use Rattle.st_locks.proofs.Demanded.{files_step, times_step}
use Rattle.st_locks.proofs.demands.demand_files.Goals as goal

pub loop-ino-preserved : goal.loop-ino-preserved
loop-ino-preserved c = record {
  same = files_step c.args.pass.config c.args.pass.now c.args.pass.tick c.args.suspects.now c.args.files.now c.loop-ino.ino-index 0 (demanding c.loop-ino.table c.loop-ino.due.items) (demanding c.demand_for.new.table c.demand_for.new.due.items)
      (files_demanded c.args.pass c.args.suspects.now c.args.files.now (demanding c.args.table.now c.args.due.now.items)) c.loop-ino-test.true c.in_ok-demand_for.ensures.ok c.loop-ino.invariant.same;
  timed = λ j a. times_step c.args.suspects.now c.args.files.now c.loop-ino.ino-index 0 c.loop-ino.table c.demand_for.new.table c.loop-ino.waking c.demand_for.new.waking j c.loop-ino-test.true (c.loop-ino.invariant.timed j a) c.in_ok-demand_for.ensures.timed;
}
