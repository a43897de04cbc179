use Rattle.st_durable.proofs.ToldChanges.{crashed_own}
use Rattle.st_durable.proofs.durable.DurableServer.crash.Goals as goal

pub invariant_of-self : goal.invariant_of-self
invariant_of-self c = crashed_own c.self.inside.node c.crash.new.self c.crash.ensures c.self.invariant
