use Rattle.std.proofs.Common.{◌<◌, ◌≤◌, ◌∙◌, length, ap, arith}
use Rattle.st_tables.specs.Orders.{changed_at}
use Rattle.st_tables.proofs.Changes.{change_more, changed_all}
use Rattle.st_tables.proofs.arrival_order.Ordered.change_each.Goals as goal

pub loop-i-preserved : goal.loop-i-preserved
loop-i-preserved g c =
    let f = g.C.Change.changed c.args.change.now in
    let l : c.loop-i.i < length c.args.self.now = omega (arith, c.loop-i-test.true, c.len-i-end.ensures.len) in
    c.change.ensures ∙ ap (changed_at f c.loop-i.i) c.loop-i.invariant ∙ change_more f c.args.self.now c.loop-i.i l

pub returns : goal.returns
returns g c =
    let f = g.C.Change.changed c.args.change.now in
    let l : length c.args.self.now ≤ c.loop-i.i = omega (arith, c.loop-i-test.false, c.loop-i.auto.i-end, c.len-i-end.ensures.len) in
    c.loop-i.invariant ∙ changed_all f c.args.self.now c.loop-i.i l
