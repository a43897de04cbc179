use Rattle.std.proofs.Common.{◌+◌, ◌-◌, ◌/◌, ◌<◌, false, get_or, arith, length}
use Rattle.st_namespace.specs.declared.entries.Inode.{Inode}
use Rattle.st_namespace.proofs.Searches.{more_above, more_below}
use Rattle.st_namespace.proofs.entries.place_of_ino.Goals as goal
use Rattle.std.proofs.lemmas.List.{get_or_default}

abbrev nothing : Inode
nothing = record { ino = 0; dir = 0; directory = false }

pub halves-preserved-then-inodes-middle : goal.halves-preserved-then-inodes-middle
halves-preserved-then-inodes-middle c =
    let inside : c.halves.low + (c.halves.high - c.halves.low) / 2 < length c.args.inodes.now = omega (arith, c.halves-test.true, c.halves.invariant.within) in
    let one = get_or c.args.inodes.now (c.halves.low + (c.halves.high - c.halves.low) / 2) nothing in
    record {
      order = omega (arith, c.halves-test.true);
      within = c.halves.invariant.within;
      below = more_below c.args.inodes.now c.args.ino c.requires _ one inside (get_or_default c.args.inodes.now _ nothing one inside) c.if-inodes-middle.true;
      above = c.halves.invariant.above;
    }

pub halves-preserved : goal.halves-preserved
halves-preserved c =
    let inside : c.halves.low + (c.halves.high - c.halves.low) / 2 < length c.args.inodes.now = omega (arith, c.halves-test.true, c.halves.invariant.within) in
    let one = get_or c.args.inodes.now (c.halves.low + (c.halves.high - c.halves.low) / 2) nothing in
    record {
      order = omega arith;
      within = omega (arith, c.halves-test.true, c.halves.invariant.within);
      below = c.halves.invariant.below;
      above = more_above c.args.inodes.now c.args.ino c.requires _ one inside (get_or_default c.args.inodes.now _ nothing one inside) c.if-inodes-middle.false;
    }
