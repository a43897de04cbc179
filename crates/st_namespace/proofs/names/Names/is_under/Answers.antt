use Rattle.std.proofs.Common.{arith, sym, ◌∙◌}
use Rattle.st_namespace.proofs.Climbs.{under_top, under_lost, under_climbs, under_ends}
use Rattle.st_namespace.proofs.names.Names.is_under.Goals as goal

pub returns-then-at-top : goal.returns-then-at-top
returns-then-at-top c = sym (under_top c.args.self.now c.args.top _ c.loop-step.at c.if-at-top.true) ∙ c.loop-step.invariant

pub returns-in_default : goal.returns-in_default
returns-in_default c = sym (under_lost c.args.self.now c.args.top _ c.loop-step._step c.loop-step.at (omega (arith, c.loop-step-test.true, c.entries-step-end.ensures)) c.if-at-top.false (rw c.in_default.is at c.dir_above.ensures)) ∙ c.loop-step.invariant

pub loop-step-preserved : goal.loop-step-preserved
loop-step-preserved c = sym (under_climbs c.args.self.now c.args.top _ c.loop-step._step c.loop-step.at c.in-Some.above (omega (arith, c.loop-step-test.true, c.entries-step-end.ensures)) c.if-at-top.false (rw c.in-Some.is at c.dir_above.ensures)) ∙ c.loop-step.invariant

pub returns : goal.returns
returns c = sym (under_ends c.args.self.now c.args.top _ c.loop-step._step c.loop-step.at (omega (arith, c.loop-step-test.false, c.entries-step-end.ensures))) ∙ c.loop-step.invariant
