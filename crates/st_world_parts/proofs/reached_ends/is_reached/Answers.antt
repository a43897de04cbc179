use Rattle.std.proofs.Common.{◌^◌}
use Rattle.st_world_parts.proofs.Later.{clock_low, step_low}
use Rattle.st_world_parts.proofs.reached_ends.is_reached.Goals as goal

pub reaches-requires-clause-clock : goal.reaches-requires-clause-clock
reaches-requires-clause-clock c = rw c.clock_of.ensures (clock_low c.args.life.now.client.0 (2 ^ 62) c.args.clocks.now c.requires.clocks)

pub reaches-requires-clause-step : goal.reaches-requires-clause-step
reaches-requires-clause-step c = rw c.step_of.ensures (step_low c.args.life.now.client.0 c.args.steps.now c.requires.steps)
