use Rattle.std.proofs.Common.{[], ◌∷◌, ap, length, arith}
use Rattle.st_operations.proofs.Firsts.{count_small, counted_more}
use Rattle.st_operations.proofs.operations.Operations.keep.Goals as goal

pub overflow_add-self : goal.overflow_add-self
overflow_add-self c =
    let all = count_small c.self.inside.rows in
    let one = count_small (c.args.operation ∷ []) in
    let same = ap length c.self.view_is in
    omega (arith, same, c.self.invariant.count, c.len-len.ensures.len, c.len-len.ensures.small, c.count_one-more.ensures, all, one)

pub invariant_of-self-2 : goal.invariant_of-self-2
invariant_of-self-2 c =
    counted_more c.self.inside.rows c.args.operation c.self.inside.syncs c.count_one-more.result c.push.new.self
    c.self.invariant c.requires c.count_one-more.ensures c.in_ok-push.ensures.ok
