use Rattle.std.proofs.Common.{false, get_or, arith}
use Rattle.st_namespace.specs.declared.entries.Inode.{Inode}
use Rattle.st_namespace.proofs.Searches.{found_there, none_behind, none_there}
use Rattle.st_namespace.proofs.entries.inode_at.Goals as goal
use Rattle.std.proofs.lemmas.List.{get_or_default}

abbrev nothing : Inode
nothing = record { ino = 0; dir = 0; directory = false }

pub returns-then-place-inodes : goal.returns-then-place-inodes
returns-then-place-inodes c = none_behind c.args.inodes.now c.args.ino c.place_of_ino-place.result c.place_of_ino-place.ensures.below (omega (arith, c.if-place-inodes.true))

pub returns-then-inode-ino : goal.returns-then-inode-ino
returns-then-inode-ino c =
    let one = get_or c.args.inodes.now c.place_of_ino-place.result nothing in
    found_there c.args.inodes.now c.args.ino c.place_of_ino-place.result c.place_of_ino-place.ensures.below one (omega (arith, c.if-place-inodes.false))
    (get_or_default c.args.inodes.now _ nothing one (omega (arith, c.if-place-inodes.false))) c.if-inode-ino.true

pub returns-else-inode-ino : goal.returns-else-inode-ino
returns-else-inode-ino c =
    let one = get_or c.args.inodes.now c.place_of_ino-place.result nothing in
    none_there c.args.inodes.now c.args.ino c.place_of_ino-place.result c.place_of_ino-place.ensures.below one (omega (arith, c.if-place-inodes.false))
    (get_or_default c.args.inodes.now _ nothing one (omega (arith, c.if-place-inodes.false)))
    c.requires c.place_of_ino-place.ensures.above c.if-inode-ino.false
