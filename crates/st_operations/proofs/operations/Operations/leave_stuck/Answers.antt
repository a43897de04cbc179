use Rattle.st_operations.proofs.Firsts.{counted_stuck}
use Rattle.st_operations.proofs.operations.Operations.leave_stuck.Goals as goal

pub invariant_of-self : goal.invariant_of-self
invariant_of-self c = counted_stuck c.args.server c.self.inside.rows c.self.inside.syncs c.change_each.new.self c.change_each.ensures c.self.invariant
