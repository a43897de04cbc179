use Rattle.std.proofs.Common.{◌≡◌, ◌<◌, true, false, get_or, length, ap, subst, sym, ◌∙◌}
use Rattle.std.proofs.lemmas.List.{get_or_default}
use Rattle.std.specs.Prelude.{IfNone}
use Rattle.std.specs.List.{list_any}
use Rattle.st_rules.specs.Names.{is_entry_at}
use Rattle.st_namespace.specs.StoredEntries.{entries_of}
use Rattle.st_namespace.proofs.Keeps.{found_name, no_name}
use Rattle.st_namespace.proofs.entries.Entries.get.Goals as goal

pub returns-in-None : goal.returns-in-None
returns-in-None c =
    let none : list_any (is_entry_at c.args.dir c.args.name.now) c.self.inside.sorted.items ≡ false = rw c.as_slice.ensures.value at (subst (λ o. IfNone o (list_any (is_entry_at c.args.dir c.args.name.now) c.as_slice.result.now ≡ false)) c.in-None.is c.found_at.ensures.none) in
    rw (← c.self.view_is) (sym (no_name (entries_of c.self.inside.inodes.items c.self.inside.sorted.items) c.self.inside.inodes.items c.self.inside.sorted.items c.self.invariant c.args.dir c.args.name.now none))

pub returns-in-Some : goal.returns-in-Some
returns-in-Some c =
    let inside : c.in-Some.place < length c.self.inside.sorted.items = rw c.as_slice.ensures.value at c.in-Some.ensures.within in
    let there : is_entry_at c.args.dir c.args.name.now (get_or c.self.inside.sorted.items c.in-Some.place c.index.result.now) ≡ true = rw c.as_slice.ensures.value at (c.in-Some.ensures.there c.index.result.now) in
    rw (← c.self.view_is)
    (sym (found_name (entries_of c.self.inside.inodes.items c.self.inside.sorted.items) c.self.inside.inodes.items c.self.inside.sorted.items c.self.invariant c.args.dir c.args.name.now c.in-Some.place c.index.result.now inside
    (λ d. get_or_default c.self.inside.sorted.items c.in-Some.place d c.index.result.now inside ∙ sym c.index.ensures)
    (ap (is_entry_at c.args.dir c.args.name.now) c.index.ensures ∙ there)))
