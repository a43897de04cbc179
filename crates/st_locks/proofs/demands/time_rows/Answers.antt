use Rattle.st_locks.proofs.Demanded.{rows_step}
use Rattle.st_locks.proofs.demands.time_rows.Goals as goal

pub loop-client-preserved : goal.loop-client-preserved
loop-client-preserved c = record {
  all = λ j s e. c.in_ok-time_row.ensures.all j s (c.loop-client.invariant.all j s e);
  timed = rows_step c.args.table.now c.args.ino c.args.clients.now c.loop-client.client-index _ c.loop-client.waking c.time_row.new.waking c.loop-client-test.true c.in_ok-time_row.ensures.all c.loop-client.invariant.timed c.in_ok-time_row.ensures.timed;
}
