use Rattle.st_operations.proofs.Firsts.{counted_marked}
use Rattle.st_operations.proofs.operations.Operations.mark_sent.Goals as goal

pub invariant_of-self : goal.invariant_of-self
invariant_of-self c = counted_marked c.self.inside.rows c.args.place c.self.inside.syncs c.change.new.self c.change.ensures c.self.invariant
