use Rattle.std.proofs.Common.{arith}
use Rattle.st_rules.specs.Extents as extents
use Rattle.st_extents.proofs.Blocks.{row_more, row_ends}
use Rattle.st_extents.proofs.layout.push_disk.Goals as goal

pub loop-block-preserved : goal.loop-block-preserved
loop-block-preserved c = record {
  added = row_more (extents.block_at c.args.place) _ _ _ c.loop-block.block c.args.blocks c.loop-block-test.true c.in_ok-push.ensures.items c.loop-block.invariant.added;
  bounded = grind arith;
}

pub returns-clause-added : goal.returns-clause-added
returns-clause-added c = row_ends (extents.block_at c.args.place) _ _ c.loop-block.block c.args.blocks c.loop-block-test.false c.loop-block.invariant.added
