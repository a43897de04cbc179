use Rattle.std.proofs.Common.{arith, sym, ◌∙◌}
use Rattle.st_namespace.proofs.ByName.{before_more, behind_more}
use Rattle.st_namespace.proofs.entries.place_of.Goals as goal

pub halves-preserved-then-is_before : goal.halves-preserved-then-is_before
halves-preserved-then-is_before c = record {
  order = omega (arith, c.halves-test.true);
  within = c.halves.invariant.within;
  before = before_more c.args.sorted.now c.requires c.args.dir c.args.name.now _ c.index-sorted-middle.result (omega (arith, c.halves-test.true, c.halves.invariant.within)) c.index-sorted-middle.is (sym c.is_before.ensures ∙ c.if-is_before.true);
  behind = c.halves.invariant.behind;
}

pub halves-preserved : goal.halves-preserved
halves-preserved c = record {
  order = omega arith;
  within = omega (arith, c.halves-test.true, c.halves.invariant.within);
  before = c.halves.invariant.before;
  behind = behind_more c.args.sorted.now c.requires c.args.dir c.args.name.now _ c.index-sorted-middle.result (omega (arith, c.halves-test.true, c.halves.invariant.within)) c.index-sorted-middle.is (sym c.is_before.ensures ∙ c.if-is_before.false);
}
