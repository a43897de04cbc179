use Rattle.std.proofs.Common.{◌++◌, ◌∷◌, [], ap, ◌∙◌}
use Rattle.std.specs.Prelude.{insert}
use Rattle.st_namespace.specs.StoredEntries.{entries_of, inode_of}
use Rattle.st_namespace.proofs.Keeps.{push_stores, shows_as, stored_as}
use Rattle.st_namespace.proofs.entries.Entries.push.Goals as goal

pub invariant_of-self-2 : goal.invariant_of-self-2
invariant_of-self-2 c =
    let s = push_stores (entries_of c.self.inside.inodes.items c.self.inside.sorted.items) c.self.inside.inodes.items c.self.inside.sorted.items c.self.invariant c.args.entry c.place_of-place.result c.as_slice.result.now c.as_slice-2.result.now
    (c.as_slice.ensures.value ∙ c.in_ok-reserve-2.ensures.items) c.as_slice-2.ensures (rw (← c.self.view_is) at c.requires.high) (rw (← c.self.view_is) at c.requires.fresh)
    c.place_of-place.ensures.within c.place_of-place.ensures.before c.place_of-place.ensures.behind in
    stored_as (entries_of c.self.inside.inodes.items c.self.inside.sorted.items ++ c.args.entry ∷ []) (c.self.inside.inodes.items ++ inode_of c.args.entry ∷ []) c.push.new.self.items (insert c.self.inside.sorted.items c.place_of-place.result c.args.entry) c.insert.new.self.items s
    ((rw c.unwrap-2.ensures at c.push.ensures.items) ∙ ap (λ l. l ++ inode_of c.args.entry ∷ []) c.in_ok-reserve.ensures.items)
    ((rw c.unwrap.ensures at c.insert.ensures.items) ∙ ap (λ l. insert l c.place_of-place.result c.args.entry) c.in_ok-reserve-2.ensures.items)

pub returns-clause-ok : goal.returns-clause-ok
returns-clause-ok c =
    let s = push_stores (entries_of c.self.inside.inodes.items c.self.inside.sorted.items) c.self.inside.inodes.items c.self.inside.sorted.items c.self.invariant c.args.entry c.place_of-place.result c.as_slice.result.now c.as_slice-2.result.now
    (c.as_slice.ensures.value ∙ c.in_ok-reserve-2.ensures.items) c.as_slice-2.ensures (rw (← c.self.view_is) at c.requires.high) (rw (← c.self.view_is) at c.requires.fresh)
    c.place_of-place.ensures.within c.place_of-place.ensures.before c.place_of-place.ensures.behind in
    rw (← c.self.view_is)
    (shows_as (entries_of c.self.inside.inodes.items c.self.inside.sorted.items ++ c.args.entry ∷ []) (c.self.inside.inodes.items ++ inode_of c.args.entry ∷ []) c.push.new.self.items (insert c.self.inside.sorted.items c.place_of-place.result c.args.entry) c.insert.new.self.items s
    ((rw c.unwrap-2.ensures at c.push.ensures.items) ∙ ap (λ l. l ++ inode_of c.args.entry ∷ []) c.in_ok-reserve.ensures.items)
    ((rw c.unwrap.ensures at c.insert.ensures.items) ∙ ap (λ l. insert l c.place_of-place.result c.args.entry) c.in_ok-reserve-2.ensures.items))
