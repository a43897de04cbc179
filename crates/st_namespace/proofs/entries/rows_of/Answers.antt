use Rattle.std.proofs.Common.{◌≡◌, ◌+◌, ◌<◌, ◌≤◌, ◌++◌, ◌∷◌, [], ℕ, List, false, ap, arith, get_or, length, refl, sym, take, ◌∙◌}
use Rattle.std.specs.Prelude.{filter_map, find, Option, Some, None}
use Rattle.std.specs.Option.{option_to_list}
use Rattle.std.proofs.lemmas.List.{take_all, take_more}
use Rattle.std.proofs.lemmas.List.Elements.{filter_map-append}
use Rattle.st_rules.specs.declared.names.NameEntry.{NameEntry}
use Rattle.st_rules.specs.Names.{is_of_ino}
use Rattle.st_namespace.specs.StoredEntries.{entries_of}
use Rattle.st_namespace.specs.declared.entries.Inode.{Inode}
use Rattle.st_namespace.proofs.entries.rows_of.Goals as goal

abbrev nobody : Inode
nobody = record { ino = 0; dir = 0; directory = false }

one_listed : (h : Inode → Option NameEntry) (x : Inode) (o : Option NameEntry) → h x ≡ o → filter_map h (x ∷ []) ≡ option_to_list o
one_listed h x None e = rw e refl
one_listed h x (Some y) e = rw e refl

-- one more inode
one_more : (ns : List Inode) (sorted : List NameEntry) (i : ℕ) (d : Inode) → i < length ns →
    entries_of (take (i + 1) ns) sorted ≡ entries_of (take i ns) sorted ++ option_to_list (find (is_of_ino (get_or ns i d).ino) sorted)
one_more ns sorted i d l =
    ap (λ (xs : List Inode). entries_of xs sorted) (take_more ns i d l)
    ∙ filter_map-append (λ (n : Inode). find (is_of_ino n.ino) sorted) (take i ns) (get_or ns i d ∷ [])
    ∙ ap (λ (xs : List NameEntry). entries_of (take i ns) sorted ++ xs)
    (one_listed (λ (n : Inode). find (is_of_ino n.ino) sorted) (get_or ns i d) (find (is_of_ino (get_or ns i d).ino) sorted) refl)

pub loop-place-preserved : goal.loop-place-preserved
loop-place-preserved c =
    c.in_ok-push_copy.ensures
    ∙ (λ i. c.loop-place.invariant i ++ option_to_list (c.entry_of-entry.ensures i))
    ∙ sym (one_more c.args.inodes.now c.args.sorted.now c.loop-place.place nobody (omega (arith, c.loop-place-test.true)))

pub returns : goal.returns
returns c = c.loop-place.invariant ∙ ap (λ (xs : List Inode). entries_of xs c.args.sorted.now)
    (take_all c.loop-place.place c.args.inodes.now (omega (arith, c.loop-place-test.false)))
