use Rattle.st_world.proofs.Shaped.{few_clients}
use Rattle.st_world.proofs.parts.WorldParts.clock.Goals as goal

pub clock_of-requires : goal.clock_of-requires
clock_of-requires c = few_clients c.self.inside.machine.world c.self.invariant.0.reached
