use Rattle.std.proofs.Common.{◌≡◌, ◌<◌, ◌∙◌, length, sym, arith}
use Rattle.st_tables.proofs.PassingValues.{first_at, first_none, none_more}
use Rattle.st_tables.proofs.arrival_order.Ordered.place.Goals as goal

pub returns-then-passes : goal.returns-then-passes
returns-then-passes g c =
    let l : c.loop-i.i < length c.args.self.now = omega (arith, c.loop-i-test.true, c.len-i-end.ensures.len) in
    first_at (g.T.Test.passes c.args.test.now) c.args.self.now c.loop-i.i l c.loop-i.invariant (sym c.passes.ensures ∙ c.if-passes.true)

pub loop-i-preserved : goal.loop-i-preserved
loop-i-preserved g c = none_more (g.T.Test.passes c.args.test.now) c.args.self.now c.loop-i.i c.loop-i.invariant (sym c.passes.ensures ∙ c.if-passes.false)

pub returns : goal.returns
returns g c =
    let all : c.loop-i.i ≡ length c.args.self.now = omega (arith, c.loop-i-test.false, c.loop-i.auto.i-end, c.len-i-end.ensures.len) in
    first_none (g.T.Test.passes c.args.test.now) c.args.self.now c.loop-i.i all c.loop-i.invariant
