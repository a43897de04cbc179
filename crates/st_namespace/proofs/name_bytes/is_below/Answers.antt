use Rattle.std.proofs.Common.{arith, sym, ◌∙◌}
use Rattle.st_namespace.proofs.Bytes.{below_same, below_apart, below_first_ends, below_second_ends}
use Rattle.st_namespace.proofs.name_bytes.is_below.Goals as goal

pub returns-then-place-a : goal.returns-then-place-a
returns-then-place-a c = sym (below_first_ends c.args.a.now c.args.b.now c.loop-place.place (omega (arith, c.if-place-a.true)) c.loop-place-test.true) ∙ c.loop-place.invariant.rest

pub returns-then-a-place : goal.returns-then-a-place
returns-then-a-place c = sym (below_apart c.args.a.now c.args.b.now c.loop-place.place 0 0 (omega (arith, c.if-place-a.false, c.loop-place.invariant.within)) c.loop-place-test.true c.if-a-place.true) ∙ c.loop-place.invariant.rest

pub loop-place-preserved : goal.loop-place-preserved
loop-place-preserved c = record {
  rest = sym (below_same c.args.a.now c.args.b.now c.loop-place.place 0 0 (omega (arith, c.if-place-a.false, c.loop-place.invariant.within)) c.loop-place-test.true c.if-a-place.false) ∙ c.loop-place.invariant.rest;
  within = omega (arith, c.if-place-a.false, c.loop-place.invariant.within);
}

pub returns : goal.returns
returns c = sym (below_second_ends c.args.a.now c.args.b.now c.loop-place.place c.loop-place-test.false) ∙ c.loop-place.invariant.rest
