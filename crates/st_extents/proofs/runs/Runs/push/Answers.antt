use Rattle.std.proofs.Common.{◌≤◌, ◌+◌, length, arith}
use Rattle.st_extents.specs.Runs.{extent_under, rows_of}
use Rattle.st_extents.proofs.RunsTold.{push_table, short}
use Rattle.st_extents.proofs.runs.Runs.push.Goals as goal

pub overflow_add-self-2 : goal.overflow_add-self-2
overflow_add-self-2 c =
    let few : length (rows_of c.self.inside.births c.self.inside.map.entries) ≤ c.self.inside.births + 1 = short (c.self.inside.births + 1) (extent_under c.self.inside.map.entries) in
    omega (arith, few, c.self.invariant.counted, c.self.invariant.few)

pub invariant_of-self-2 : goal.invariant_of-self-2
invariant_of-self-2 c =
    (push_table c.self.inside.map.entries c.put.new.map.entries c.self.inside.births c.self.inside.count c.self.invariant c.args.file c.args.page c.args.at (rw (← c.self.view_is) at c.requires.births) c.requires.page (omega arith) (rw (← c.self.view_is) at c.requires.fresh)
    c.put.ensures.ordered c.last_up_to-before.result c.last_up_to-before.ensures.found c.last_up_to-before.ensures.last c.grown.result c.grown.ensures c.in_ok-put.ensures.ok).0

pub returns-clause-rows : goal.returns-clause-rows
returns-clause-rows c =
    rw (← c.self.view_is)
    (push_table c.self.inside.map.entries c.put.new.map.entries c.self.inside.births c.self.inside.count c.self.invariant c.args.file c.args.page c.args.at (rw (← c.self.view_is) at c.requires.births) c.requires.page (omega arith) (rw (← c.self.view_is) at c.requires.fresh)
    c.put.ensures.ordered c.last_up_to-before.result c.last_up_to-before.ensures.found c.last_up_to-before.ensures.last c.grown.result c.grown.ensures c.in_ok-put.ensures.ok).1
