use Rattle.std.proofs.Common.{Some}
use Rattle.st_operations.proofs.Firsts.{counted_few, counted_taken}
use Rattle.st_operations.proofs.operations.Operations.take.Goals as goal

pub overflow_sub-self : goal.overflow_sub-self
overflow_sub-self c =
    counted_few c.self.inside.rows c.args.place c.self.inside.syncs c.count_one.result (Some c.take-operation.result)
    c.self.invariant c.take-operation.ensures.taken c.count_one.ensures

pub invariant_of-self : goal.invariant_of-self
invariant_of-self c =
    counted_taken c.self.inside.rows c.args.place c.self.inside.syncs c.count_one.result (Some c.take-operation.result) c.take-operation.new.self
    c.self.invariant c.take-operation.ensures.taken c.count_one.ensures c.take-operation.ensures.left
