use Rattle.std.proofs.Common.{ap, ◌∙◌}
use Rattle.std.specs.Prelude.{find}
use Rattle.std.specs.Option.{option_map}
use Rattle.st_namespace.specs.StoredEntries.{entries_of, has_number, dir_in}
use Rattle.st_namespace.proofs.Keeps.{dir_told, stored_rising}
use Rattle.st_namespace.proofs.entries.Entries.dir_of.Goals as goal

pub inode_at-requires : goal.inode_at-requires
inode_at-requires c = rw c.as_slice.ensures.value (stored_rising (entries_of c.self.inside.inodes.items c.self.inside.sorted.items) c.self.inside.inodes.items c.self.inside.sorted.items c.self.invariant)

pub returns : goal.returns
returns c =
    rw (← c.self.view_is)
    (c.dir_in.ensures ∙ ap (option_map dir_in) c.inode_at.ensures ∙ ap (λ l. option_map dir_in (find (has_number c.args.ino) l)) c.as_slice.ensures.value
    ∙ dir_told (entries_of c.self.inside.inodes.items c.self.inside.sorted.items) c.self.inside.inodes.items c.self.inside.sorted.items c.args.ino c.self.invariant)
