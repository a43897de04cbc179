use Rattle.std.proofs.Common.{arith, ap, sym, ◌∙◌}
use Rattle.std.specs.Prelude.{is_some}
use Rattle.st_extents.proofs.Blocks.{page_skip, page_more, pages_end}
use Rattle.st_extents.proofs.mapping.Mapping.unmapped.Goals as goal

pub loop-place-preserved-then-is_some : goal.loop-place-preserved-then-is_some
loop-place-preserved-then-is_some c = record {
  pages = page_skip c.args.self.now.rows c.args.file c.args.page.0 _ _ c.loop-place.place c.args.count c.loop-place-test.true (ap is_some (sym c.get.ensures) ∙ sym c.is_some.ensures ∙ c.if-is_some.true) c.loop-place.invariant.pages;
  few = grind arith;
}

pub loop-place-preserved : goal.loop-place-preserved
loop-place-preserved c = record {
  pages = page_more c.args.self.now.rows c.args.file c.args.page.0 _ _ _ c.loop-place.place c.args.count c.loop-place-test.true (ap is_some (sym c.get.ensures) ∙ sym c.is_some.ensures ∙ c.if-is_some.false) c.in_ok-push.ensures.items c.loop-place.invariant.pages;
  few = grind arith;
}

pub returns-clause-pages : goal.returns-clause-pages
returns-clause-pages c = pages_end c.args.self.now.rows c.args.file c.args.page.0 _ _ c.loop-place.place c.args.count c.loop-place-test.false c.loop-place.invariant.pages
