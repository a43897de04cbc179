use Rattle.std.proofs.Common.{◌≡◌, ◌<◌, true, false, get_or, if◌then◌else◌, length, map, ap, subst, sym, ◌∙◌}
use Rattle.std.proofs.lemmas.List.{get_or_default}
use Rattle.std.specs.Prelude.{IfNone, insert}
use Rattle.std.specs.List.{list_any}
use Rattle.st_rules.specs.declared.names.NameEntry.{NameEntry}
use Rattle.st_rules.specs.Names.{is_entry_at, move_entry}
use Rattle.st_namespace.specs.StoredEntries.{entries_of, has_number, moved_to}
use Rattle.st_namespace.proofs.Keeps.{left_by_name, move_stores, none_moves, shows_as, stored_as, stored_rising}
use Rattle.st_namespace.proofs.entries.Entries.rename.Goals as goal

pub returns-in_default : goal.returns-in_default
returns-in_default c =
    let none : list_any (is_entry_at c.args.dir c.args.name.now) c.self.inside.sorted.items ≡ false = rw c.as_slice.ensures.value at (subst (λ o. IfNone o (list_any (is_entry_at c.args.dir c.args.name.now) c.as_slice.result.now ≡ false)) c.in_default.is c.found_at.ensures.none) in
    rw (← c.self.view_is) (sym (none_moves c.args.dir c.args.name.now c.args.dir2 c.args.name2 (entries_of c.self.inside.inodes.items c.self.inside.sorted.items) (sym (c.self.invariant.same (is_entry_at c.args.dir c.args.name.now)) ∙ none)))

pub move_inode-requires : goal.move_inode-requires
move_inode-requires c = stored_rising (entries_of c.self.inside.inodes.items c.self.inside.sorted.items) c.self.inside.inodes.items c.self.inside.sorted.items c.self.invariant

pub place_of-place2-requires : goal.place_of-place2-requires
place_of-place2-requires c =
    let inside : c.in-Some.place < length c.self.inside.sorted.items = rw c.as_slice.ensures.value at c.in-Some.ensures.within in
    let is : (d : NameEntry) → get_or c.self.inside.sorted.items c.in-Some.place d ≡ c.remove-entry.result =
    λ d. get_or_default c.self.inside.sorted.items c.in-Some.place d c.remove-entry.result inside ∙ sym c.remove-entry.ensures.value in
    let there : is_entry_at c.args.dir c.args.name.now c.remove-entry.result ≡ true = ap (is_entry_at c.args.dir c.args.name.now) c.remove-entry.ensures.value ∙ (rw c.as_slice.ensures.value at (c.in-Some.ensures.there c.remove-entry.result)) in
    rw (c.as_slice-2.ensures.value, c.remove-entry.ensures.items) (left_by_name (entries_of c.self.inside.inodes.items c.self.inside.sorted.items) c.self.inside.inodes.items c.self.inside.sorted.items c.self.invariant c.args.dir c.args.name.now c.in-Some.place c.remove-entry.result inside is there)

pub invariant_of-self : goal.invariant_of-self
invariant_of-self c =
    let inside : c.in-Some.place < length c.self.inside.sorted.items = rw c.as_slice.ensures.value at c.in-Some.ensures.within in
    let is : (d : NameEntry) → get_or c.self.inside.sorted.items c.in-Some.place d ≡ c.remove-entry.result =
    λ d. get_or_default c.self.inside.sorted.items c.in-Some.place d c.remove-entry.result inside ∙ sym c.remove-entry.ensures.value in
    let there : is_entry_at c.args.dir c.args.name.now c.remove-entry.result ≡ true = ap (is_entry_at c.args.dir c.args.name.now) c.remove-entry.ensures.value ∙ (rw c.as_slice.ensures.value at (c.in-Some.ensures.there c.remove-entry.result)) in
    stored_as (map (move_entry c.args.dir c.args.name.now c.args.dir2 c.args.name2) (entries_of c.self.inside.inodes.items c.self.inside.sorted.items)) (map (λ n. if has_number c.remove-entry.result.ino n then moved_to c.args.dir2 n else n) c.self.inside.inodes.items) c.move_inode.new.inodes.items (insert c.as_slice-2.result.now c.place_of-place2.result (record { dir = c.args.dir2; name = c.args.name2; ino = c.remove-entry.result.ino; directory = c.remove-entry.result.directory })) c.insert.new.self.items
    (move_stores (entries_of c.self.inside.inodes.items c.self.inside.sorted.items) c.self.inside.inodes.items c.self.inside.sorted.items c.self.invariant c.args.dir c.args.name.now c.in-Some.place c.remove-entry.result inside is there c.args.dir2 c.args.name2 (rw (← c.self.view_is) at c.requires) c.place_of-place2.result c.as_slice-2.result.now c.as_slice-3.result.now (c.as_slice-2.ensures.value ∙ c.remove-entry.ensures.items) c.as_slice-3.ensures
    c.place_of-place2.ensures.within c.place_of-place2.ensures.before c.place_of-place2.ensures.behind)
    c.move_inode.ensures
    ((rw c.unwrap.ensures at c.insert.ensures.items) ∙ ap (λ l. insert l c.place_of-place2.result (record { dir = c.args.dir2; name = c.args.name2; ino = c.remove-entry.result.ino; directory = c.remove-entry.result.directory })) (sym c.as_slice-2.ensures.value))

pub returns : goal.returns
returns c =
    let inside : c.in-Some.place < length c.self.inside.sorted.items = rw c.as_slice.ensures.value at c.in-Some.ensures.within in
    let is : (d : NameEntry) → get_or c.self.inside.sorted.items c.in-Some.place d ≡ c.remove-entry.result =
    λ d. get_or_default c.self.inside.sorted.items c.in-Some.place d c.remove-entry.result inside ∙ sym c.remove-entry.ensures.value in
    let there : is_entry_at c.args.dir c.args.name.now c.remove-entry.result ≡ true = ap (is_entry_at c.args.dir c.args.name.now) c.remove-entry.ensures.value ∙ (rw c.as_slice.ensures.value at (c.in-Some.ensures.there c.remove-entry.result)) in
    rw (← c.self.view_is)
    (shows_as (map (move_entry c.args.dir c.args.name.now c.args.dir2 c.args.name2) (entries_of c.self.inside.inodes.items c.self.inside.sorted.items)) (map (λ n. if has_number c.remove-entry.result.ino n then moved_to c.args.dir2 n else n) c.self.inside.inodes.items) c.move_inode.new.inodes.items (insert c.as_slice-2.result.now c.place_of-place2.result (record { dir = c.args.dir2; name = c.args.name2; ino = c.remove-entry.result.ino; directory = c.remove-entry.result.directory })) c.insert.new.self.items
    (move_stores (entries_of c.self.inside.inodes.items c.self.inside.sorted.items) c.self.inside.inodes.items c.self.inside.sorted.items c.self.invariant c.args.dir c.args.name.now c.in-Some.place c.remove-entry.result inside is there c.args.dir2 c.args.name2 (rw (← c.self.view_is) at c.requires) c.place_of-place2.result c.as_slice-2.result.now c.as_slice-3.result.now (c.as_slice-2.ensures.value ∙ c.remove-entry.ensures.items) c.as_slice-3.ensures
    c.place_of-place2.ensures.within c.place_of-place2.ensures.before c.place_of-place2.ensures.behind)
    c.move_inode.ensures
    ((rw c.unwrap.ensures at c.insert.ensures.items) ∙ ap (λ l. insert l c.place_of-place2.result (record { dir = c.args.dir2; name = c.args.name2; ino = c.remove-entry.result.ino; directory = c.remove-entry.result.directory })) (sym c.as_slice-2.ensures.value)))
