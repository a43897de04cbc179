use Rattle.std.proofs.Common.{◌≡◌, ◌<◌, ap, arith, get_or, length, sym, ◌∙◌}
use Rattle.st_namespace.specs.declared.entries.Inode.{Inode}
use Rattle.st_namespace.specs.StoredEntries.{moved_to}
use Rattle.st_namespace.proofs.Searches.{moves, moves_none}
use Rattle.st_namespace.proofs.entries.move_inode.Goals as goal
use Rattle.std.proofs.lemmas.List.{get_or_default}

pub returns-then-place-len : goal.returns-then-place-len
returns-then-place-len c =
    moves_none c.args.inodes.now.items c.args.ino c.requires c.place_of_ino-place.result (rw c.as_slice.ensures.value at c.place_of_ino-place.ensures.below) (rw c.as_slice.ensures.value at c.place_of_ino-place.ensures.above)
    (λ l d z. omega (arith, l, c.if-place-len.true, c.len.ensures, c.args.inodes.now.ok.0)) (moved_to c.args.dir)

pub returns-then-inode-ino : goal.returns-then-inode-ino
returns-then-inode-ino c =
    let inside : c.place_of_ino-place.result < length c.args.inodes.now.items = omega (arith, c.if-place-len.false, c.len.ensures, c.args.inodes.now.ok.0) in
    moves_none c.args.inodes.now.items c.args.ino c.requires c.place_of_ino-place.result (rw c.as_slice.ensures.value at c.place_of_ino-place.ensures.below) (rw c.as_slice.ensures.value at c.place_of_ino-place.ensures.above)
    (λ l d z. c.if-inode-ino.true
    (ap (λ (n : Inode). n.ino)
    (c.index-inode.ensures ∙ get_or_default c.args.inodes.now.items c.place_of_ino-place.result c.index-inode.result.now d inside) ∙ z))
    (moved_to c.args.dir)

pub returns : goal.returns
returns c =
    let inside : c.place_of_ino-place.result < length c.args.inodes.now.items = omega (arith, c.if-place-len.false, c.len.ensures, c.args.inodes.now.ok.0) in
    let at : (d : Inode) → (get_or c.args.inodes.now.items c.place_of_ino-place.result d).ino ≡ c.args.ino =
    λ d. ap (λ (n : Inode). n.ino)
    (get_or_default c.args.inodes.now.items c.place_of_ino-place.result d c.index-inode.result.now inside ∙ sym c.index-inode.ensures) ∙
    c.if-inode-ino.false in
    moves c.args.inodes.now.items c.args.ino c.requires c.place_of_ino-place.result (moved_to c.args.dir) (record { ino = c.index-inode.result.now.ino; dir = c.args.dir; directory = c.index-inode.result.now.directory }) inside at
    (λ d. ap (moved_to c.args.dir)
    (c.index-inode.ensures ∙ get_or_default c.args.inodes.now.items c.place_of_ino-place.result c.index-inode.result.now d inside))
