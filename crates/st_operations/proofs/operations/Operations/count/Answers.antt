use Rattle.std.proofs.Common.{◌+◌, ◌∙◌, ap, arith, length}
use Rattle.std.specs.Option.{option_to_list}
use Rattle.std.specs.Prelude.{filter, slice_get}
use Rattle.st_operations.proofs.Firsts.{counted_one_more, take_whole}
use Rattle.st_operations.proofs.operations.Operations.count.Goals as goal

pub loop-i-preserved : goal.loop-i-preserved
loop-i-preserved g c = record {
  counted = (λ j. c.loop-i.invariant.counted j + c.count_at-count.ensures.count j) ∙ counted_one_more (g.T.Test.passes c.args.test.now) c.args.self.now c.loop-i.i;
  few = omega (arith, c.count_at-count.ensures.few, c.loop-i.invariant.few);
}

pub returns : goal.returns
returns g c = c.loop-i.invariant.counted ∙ ap (λ os. length (filter (g.T.Test.passes c.args.test.now) os)) (take_whole c.args.self.now c.loop-i.i (omega (arith, c.loop-i-test.false, c.len-i-end.ensures.len)))
