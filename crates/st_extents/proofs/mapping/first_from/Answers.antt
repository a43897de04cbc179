use Rattle.std.proofs.Common.{◌+◌, ◌-◌, ◌/◌, ◌<◌, ◌≤◌, get_or, arith}
use Rattle.st_base.specs.declared.disk.BlockAt.{BlockAt}
use Rattle.st_extents.specs.Places.{rank}
use Rattle.st_extents.proofs.LaidPages.{all_below, none_below}
use Rattle.st_extents.proofs.mapping.first_from.Goals as goal

abbrev nowhere : BlockAt
nowhere = record { disk = record { 0 = 0 }; block = 0 }

pub halves-preserved-then-rank : goal.halves-preserved-then-rank
halves-preserved-then-rank c =
    let lower : rank (get_or c.args.own.now (c.halves.low + (c.halves.high - c.halves.low) / 2) nowhere) < rank c.args.at = omega (arith, c.if-rank.true, c.rank.ensures, c.rank-in-halves.ensures) in
    record {
      order = omega (arith, c.halves-test.true);
      within = c.halves.invariant.within;
      below = all_below c.args.own.now c.args.at c.requires (c.halves.low + (c.halves.high - c.halves.low) / 2) nowhere (omega (arith, c.halves-test.true, c.halves.invariant.within)) lower;
      above = c.halves.invariant.above;
    }

pub halves-preserved : goal.halves-preserved
halves-preserved c =
    let upper : rank c.args.at ≤ rank (get_or c.args.own.now (c.halves.low + (c.halves.high - c.halves.low) / 2) nowhere) = omega (arith, c.if-rank.false, c.rank.ensures, c.rank-in-halves.ensures) in
    record {
      order = omega arith;
      within = omega (arith, c.halves-test.true, c.halves.invariant.within);
      below = c.halves.invariant.below;
      above = none_below c.args.own.now c.args.at c.requires (c.halves.low + (c.halves.high - c.halves.low) / 2) nowhere (omega (arith, c.halves-test.true, c.halves.invariant.within)) upper;
    }

pub returns-clause-above : goal.returns-clause-above
returns-clause-above c = λ j d k s. c.halves.invariant.above j d (omega (arith, k, c.halves-test.false)) s
