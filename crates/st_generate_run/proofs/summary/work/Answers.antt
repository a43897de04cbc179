use Rattle.std.proofs.Common.{arith}
use Rattle.st_generate_run.proofs.Turning.{first_events, ready_first}
use Rattle.st_generate_run.proofs.summary.work.Goals as goal

pub run_events-requires-clause-ready : goal.run_events-requires-clause-ready
run_events-requires-clause-ready c = ready_first c.in_ok-world.world c.in_ok-world.ensures

pub run_events-requires-clause-room : goal.run_events-requires-clause-room
run_events-requires-clause-room c = let z = first_events c.in_ok-world.world c.in_ok-world.ensures in let n = c.requires in omega (arith, z, n)
