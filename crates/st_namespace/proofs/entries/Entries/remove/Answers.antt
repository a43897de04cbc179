use Rattle.std.proofs.Common.{◌≡◌, ◌<◌, true, false, filter, get_or, length, ap, subst, sym, ◌∙◌}
use Rattle.std.proofs.lemmas.List.{get_or_default}
use Rattle.std.specs.Prelude.{IfNone, not}
use Rattle.std.specs.List.{list_any}
use Rattle.st_rules.specs.declared.names.NameEntry.{NameEntry}
use Rattle.st_rules.specs.Names.{is_entry_at}
use Rattle.st_namespace.specs.StoredEntries.{entries_of, has_number}
use Rattle.st_namespace.proofs.Keeps.{left_is, none_goes, shows_as, stored_as, stored_rising, stores_removed}
use Rattle.st_namespace.proofs.entries.Entries.remove.Goals as goal

pub returns-in_default : goal.returns-in_default
returns-in_default c =
    let none : list_any (is_entry_at c.args.dir c.args.name.now) c.self.inside.sorted.items ≡ false = rw c.as_slice.ensures.value at (subst (λ o. IfNone o (list_any (is_entry_at c.args.dir c.args.name.now) c.as_slice.result.now ≡ false)) c.in_default.is c.found_at.ensures.none) in
    rw (← c.self.view_is) (sym (none_goes (is_entry_at c.args.dir c.args.name.now) (entries_of c.self.inside.inodes.items c.self.inside.sorted.items) (sym (c.self.invariant.same (is_entry_at c.args.dir c.args.name.now)) ∙ none)))

pub drop_inode-requires : goal.drop_inode-requires
drop_inode-requires c = stored_rising (entries_of c.self.inside.inodes.items c.self.inside.sorted.items) c.self.inside.inodes.items c.self.inside.sorted.items c.self.invariant

pub invariant_of-self : goal.invariant_of-self
invariant_of-self c =
    let inside : c.in-Some.place < length c.self.inside.sorted.items = rw c.as_slice.ensures.value at c.in-Some.ensures.within in
    let is : (d : NameEntry) → get_or c.self.inside.sorted.items c.in-Some.place d ≡ c.remove-entry.result =
    λ d. get_or_default c.self.inside.sorted.items c.in-Some.place d c.remove-entry.result inside ∙ sym c.remove-entry.ensures.value in
    let there : is_entry_at c.args.dir c.args.name.now c.remove-entry.result ≡ true = ap (is_entry_at c.args.dir c.args.name.now) c.remove-entry.ensures.value ∙ (rw c.as_slice.ensures.value at (c.in-Some.ensures.there c.remove-entry.result)) in
    stored_as (filter (λ e. not (is_entry_at c.args.dir c.args.name.now e)) (entries_of c.self.inside.inodes.items c.self.inside.sorted.items)) (filter (λ n. not (has_number c.remove-entry.result.ino n)) c.self.inside.inodes.items) c.drop_inode.new.inodes.items (filter (λ e. not (is_entry_at c.args.dir c.args.name.now e)) c.self.inside.sorted.items) c.remove-entry.new.self.items (stores_removed (entries_of c.self.inside.inodes.items c.self.inside.sorted.items) c.self.inside.inodes.items c.self.inside.sorted.items c.self.invariant c.args.dir c.args.name.now c.in-Some.place c.remove-entry.result inside is there) c.drop_inode.ensures (c.remove-entry.ensures.items ∙ left_is (entries_of c.self.inside.inodes.items c.self.inside.sorted.items) c.self.inside.inodes.items c.self.inside.sorted.items c.self.invariant c.args.dir c.args.name.now c.in-Some.place c.remove-entry.result inside is there)

pub returns : goal.returns
returns c =
    let inside : c.in-Some.place < length c.self.inside.sorted.items = rw c.as_slice.ensures.value at c.in-Some.ensures.within in
    let is : (d : NameEntry) → get_or c.self.inside.sorted.items c.in-Some.place d ≡ c.remove-entry.result =
    λ d. get_or_default c.self.inside.sorted.items c.in-Some.place d c.remove-entry.result inside ∙ sym c.remove-entry.ensures.value in
    let there : is_entry_at c.args.dir c.args.name.now c.remove-entry.result ≡ true = ap (is_entry_at c.args.dir c.args.name.now) c.remove-entry.ensures.value ∙ (rw c.as_slice.ensures.value at (c.in-Some.ensures.there c.remove-entry.result)) in
    rw (← c.self.view_is)
    (shows_as (filter (λ e. not (is_entry_at c.args.dir c.args.name.now e)) (entries_of c.self.inside.inodes.items c.self.inside.sorted.items)) (filter (λ n. not (has_number c.remove-entry.result.ino n)) c.self.inside.inodes.items) c.drop_inode.new.inodes.items (filter (λ e. not (is_entry_at c.args.dir c.args.name.now e)) c.self.inside.sorted.items) c.remove-entry.new.self.items (stores_removed (entries_of c.self.inside.inodes.items c.self.inside.sorted.items) c.self.inside.inodes.items c.self.inside.sorted.items c.self.invariant c.args.dir c.args.name.now c.in-Some.place c.remove-entry.result inside is there) c.drop_inode.ensures (c.remove-entry.ensures.items ∙ left_is (entries_of c.self.inside.inodes.items c.self.inside.sorted.items) c.self.inside.inodes.items c.self.inside.sorted.items c.self.invariant c.args.dir c.args.name.now c.in-Some.place c.remove-entry.result inside is there))
