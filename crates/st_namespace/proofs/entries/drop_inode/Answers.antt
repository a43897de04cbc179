use Rattle.std.proofs.Common.{◌≡◌, ◌<◌, ap, arith, get_or, length, sym, ◌∙◌}
use Rattle.st_namespace.specs.declared.entries.Inode.{Inode}
use Rattle.st_namespace.proofs.Searches.{drops, drops_none}
use Rattle.st_namespace.proofs.entries.drop_inode.Goals as goal
use Rattle.std.proofs.lemmas.List.{get_or_default}

pub returns-then-place-len : goal.returns-then-place-len
returns-then-place-len c =
    drops_none c.args.inodes.now.items c.args.ino c.requires c.place_of_ino-place.result (rw c.as_slice.ensures.value at c.place_of_ino-place.ensures.below) (rw c.as_slice.ensures.value at c.place_of_ino-place.ensures.above)
    (λ l d z. omega (arith, l, c.if-place-len.true, c.len.ensures, c.args.inodes.now.ok.0))

pub returns-then-index-ino : goal.returns-then-index-ino
returns-then-index-ino c =
    let inside : c.place_of_ino-place.result < length c.args.inodes.now.items = omega (arith, c.if-place-len.false, c.len.ensures, c.args.inodes.now.ok.0) in
    drops_none c.args.inodes.now.items c.args.ino c.requires c.place_of_ino-place.result (rw c.as_slice.ensures.value at c.place_of_ino-place.ensures.below) (rw c.as_slice.ensures.value at c.place_of_ino-place.ensures.above)
    (λ l d z. c.if-index-ino.true
    (ap (λ (n : Inode). n.ino) (c.index.ensures ∙ get_or_default c.args.inodes.now.items c.place_of_ino-place.result c.index.result.now d inside) ∙ z))

pub returns : goal.returns
returns c =
    let inside : c.place_of_ino-place.result < length c.args.inodes.now.items = omega (arith, c.if-place-len.false, c.len.ensures, c.args.inodes.now.ok.0) in
    let at : (d : Inode) → (get_or c.args.inodes.now.items c.place_of_ino-place.result d).ino ≡ c.args.ino =
    λ d. ap (λ (n : Inode). n.ino) (get_or_default c.args.inodes.now.items c.place_of_ino-place.result d c.index.result.now inside ∙ sym c.index.ensures) ∙
    c.if-index-ino.false in
    c.remove-inode.ensures.items ∙ drops c.args.inodes.now.items c.args.ino c.requires c.place_of_ino-place.result inside at
