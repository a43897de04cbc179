-- What an ask makes of a tree is what the names do.
use Rattle.std.proofs.Common.{◌≡◌, ◌<◌, arith, inl, inr, ℕ, suc, ◌+◌, Bool, true, false, not, ◌&&◌, ◌||◌, ◌==◌, List, [], ◌∷◌, length, map, Option, Some, None, Ok, Err, refl, sym, ap, ◌∙◌, subst, if◌then◌else◌}
use Rattle.std.specs.Prelude.{cond, filter, is_some, nat_lt, option_map, take, Result}
use Rattle.std.specs.Option.{option_or}
use Rattle.std.proofs.lemmas.Bool.{eq-eqb, eqb-true, ltb-true}
use Rattle.st_base.specs.declared.names.NameAsk.TheVariants as asked
use Rattle.st_base.specs.declared.names.NameRow.{NameRow}
use Rattle.st_messages.specs.declared.answer.AppAnswer.TheVariants as answers
use Rattle.st_rules.specs.declared.names.EntryRefusal.{EntryRefusal}
use Rattle.st_rules.specs.declared.names.EntryRefusal.TheVariants as refusals
use Rattle.st_rules.specs.declared.names.NameEntry.{NameEntry}
use Rattle.st_rules.specs.Names as names
use Rattle.st_rules.specs.Names.{Names}
use Rattle.st_lemmas.specs.Lists.{Has}
use Rattle.st_lemmas.proofs.Lookups.{if_false, if_true}
use Rattle.st_lemmas.proofs.Tables.{and_left, found_at}
use Rattle.st_lemmas.proofs.Lengths.{length_map, map_last}
use Rattle.st_laws_volume.specs.TreeNames.{DoesTheSame, IsDirectory, IsSound, SoundNamesDoTheSame, as_changed, as_found, as_listed, entry_of, tree_of}
use Rattle.st_laws_volume.proofs.TreeKinds.{any_as, code_or_0, dir_fault, entry_same, file_at, filter_as, is_refused, kind_is, lies_same, place_fault, place_is}
use Rattle.st_volume.specs.Trees as trees
use Rattle.st_volume.specs.Trees.{DirEntry, Made, Tree, does, makes, refuses}

-- a place that is refused, and one that isn't
refused_or : (n : Names) → IsSound n → (dir : ℕ) (name : List ℕ) (made : Option Made) (P : Option Made → Type 0) →
    ((r : EntryRefusal) → names.place_refusal n dir name ≡ Some r → P (refuses (tree_of n) (names.code_of r))) →
    (names.place_refusal n dir name ≡ None → P made) →
    P (trees.unless (tree_of n) (trees.fault_of (tree_of n) dir name) made)
refused_or n s dir name made P refused free =
    subst (λ k. P (trees.unless (tree_of n) k made)) (sym (place_fault n s dir name)) (go (names.place_refusal n dir name) refl)
  where
    go : (o : Option EntryRefusal) → names.place_refusal n dir name ≡ o → P (trees.unless (tree_of n) (code_or_0 o) made)
    go None q = free q
    go (Some r) q = subst P (sym (is_refused (tree_of n) r made)) (refused r q)

-- Look-ups.
lookup_same : (n : Names) → IsSound n → (dir : ℕ) (name : List ℕ) → does (tree_of n) (asked.Lookup dir name) ≡ as_found n (names.lookup n dir name)
unfolding names.lookup names.lookup_at
lookup_same n s dir name =
    refused_or n s dir name (trees.looks_up (tree_of n) (trees.entry_at (tree_of n) dir name)) (λ m. m ≡ as_found n (names.lookup n dir name))
    (λ r q. sym (ap (λ o. as_found n (names.lookup_at n dir name o)) q))
    (λ q.
    ap (trees.looks_up (tree_of n)) (entry_same n dir name)
    ∙ (found (names.entry_at n dir name) ∙ sym (ap (λ o. as_found n (names.lookup_at n dir name o)) q)))
  where
    found : (o : Option NameEntry) → trees.looks_up (tree_of n) (option_map entry_of o) ≡ as_found n (names.ino_of o)
    found None = refl
    found (Some e) = refl

-- One more entry.
add_same : (n : Names) → IsSound n → (directory : Bool) (dir : ℕ) (name : List ℕ) →
    trees.at_place (tree_of n) dir name (trees.creates (tree_of n) (trees.entry directory dir name n.next)) ≡ as_changed n None (names.add n dir name directory)
unfolding names.add names.add_at names.add_beside names.add_new names.added
add_same n s directory dir name =
    refused_or n s dir name (trees.creates (tree_of n) new (trees.entry_at (tree_of n) dir name)) (λ m. m ≡ as_changed n None (names.add n dir name directory))
    (λ r q. sym (ap (λ o. as_changed n None (names.add_at n dir name directory o)) q))
    (λ q.
    ap (trees.creates (tree_of n) new) (entry_same n dir name)
    ∙ (beside (names.entry_at n dir name) ∙ sym (ap (λ o. as_changed n None (names.add_at n dir name directory o)) q)))
  where
    new : DirEntry
    new = trees.entry directory dir name n.next

    room : (b : Bool) →
        (if b then makes (trees.with_new (tree_of n) new) (answers.Named n.next) None else refuses (tree_of n) 8)
        ≡ as_changed n None (if b then Ok (names.added n dir name directory) else Err refusals.TooMany)
    room true =
        ap (λ es. makes (record { entries = es; next = n.next + 1; limit = n.limit }) (answers.Named n.next) None)
        (sym (map_last entry_of n.entries (names.new_entry n dir name directory)))
    room false = refl

    beside : (o : Option NameEntry) →
        trees.creates (tree_of n) new (option_map entry_of o)
        ≡ as_changed n None (if is_some o then Err refusals.Exists else names.add_new n dir name directory)
    beside (Some e) = refl
    beside None =
        ap (λ k. if nat_lt (k + 1) n.limit then makes (trees.with_new (tree_of n) new) (answers.Named n.next) None else refuses (tree_of n) 8)
        (length_map entry_of n.entries)
        ∙ room (nat_lt (names.live_inodes n) n.limit)

-- An entry moves.
move_same : (n : Names) → IsSound n → (dir : ℕ) (name : List ℕ) (dir2 : ℕ) (name2 : List ℕ) (e : NameEntry) → names.entry_at n dir name ≡ Some e →
    map (trees.moved dir name (trees.entry e.directory dir2 name2 e.ino)) (map entry_of n.entries) ≡ map entry_of
    (map (names.move_entry dir name dir2 name2) n.entries)
unfolding names.moved
move_same n s dir name dir2 name2 e q = each n.entries (λ x i. one x i (names.is_entry_at dir name x) refl)
  where
    moved_to : DirEntry
    moved_to = trees.entry e.directory dir2 name2 e.ino

    one : (x : NameEntry) → Has x n.entries → (b : Bool) → names.is_entry_at dir name x ≡ b →
        trees.moved dir name moved_to (entry_of x) ≡ entry_of (names.move_entry dir name dir2 name2 x)
    one x i true p =
        let z = found_at (names.is_entry_at dir name) n.entries e q in
        if_true (names.is_entry_at dir name x) moved_to (entry_of x) p
        ∙ (ap (λ (y : NameEntry). trees.entry y.directory dir2 name2 y.ino) (s.places dir name e x z.1 i z.0 p)
        ∙ sym (ap entry_of (if_true (names.is_entry_at dir name x) (names.moved dir2 name2 x) x p)))
    one x i false p =
        if_false (names.is_entry_at dir name x) moved_to (entry_of x) p ∙
        sym (ap entry_of (if_false (names.is_entry_at dir name x) (names.moved dir2 name2 x) x p))

    each : (es : List NameEntry) → ((x : NameEntry) → Has x es → trees.moved dir name moved_to (entry_of x) ≡ entry_of (names.move_entry dir name dir2 name2 x))
        →
        map (trees.moved dir name moved_to) (map entry_of es) ≡ map entry_of (map (names.move_entry dir name dir2 name2) es)
    each [] h = refl
    each (x ∷ es) h =
        ap (λ y. y ∷ map (trees.moved dir name moved_to) (map entry_of es)) (h x (inl refl))
        ∙ ap (λ ys. entry_of (names.move_entry dir name dir2 name2 x) ∷ ys) (each es (λ y i. h y (inr i)))

rename_same : (n : Names) → IsSound n → (dir : ℕ) (name : List ℕ) (dir2 : ℕ) (name2 : List ℕ) →
    does (tree_of n) (asked.Rename dir name dir2 name2) ≡ as_changed n None (names.rename n dir name dir2 name2)
unfolding names.rename names.rename_at names.rename_found names.rename_entry names.rename_free names.renamed
rename_same n s dir name dir2 name2 =
    refused_or n s dir name (trees.at_place t dir2 name2 (trees.goes t dir name dir2 name2 (trees.entry_at t dir name)))
    (λ m. m ≡ as_changed n None (names.rename n dir name dir2 name2))
    (λ r q. sym (ap (λ o. by (option_or o (names.place_refusal n dir2 name2))) q))
    (λ q.
    refused_or n s dir2 name2 (trees.goes t dir name dir2 name2 (trees.entry_at t dir name) (trees.entry_at t dir2 name2))
    (λ m. m ≡ as_changed n None (names.rename n dir name dir2 name2))
    (λ r p. sym (ap (λ o. by (option_or o (names.place_refusal n dir2 name2))) q ∙ ap by p))
    (λ p.
    ap (λ o. trees.goes t dir name dir2 name2 o (trees.entry_at t dir2 name2)) (entry_same n dir name)
    ∙ (ap (trees.goes t dir name dir2 name2 (option_map entry_of (names.entry_at n dir name))) (entry_same n dir2 name2)
    ∙ (found (place_is n dir2 name2 p) (names.entry_at n dir name) refl (names.entry_at n dir2 name2) refl
    ∙ sym (ap (λ o. by (option_or o (names.place_refusal n dir2 name2))) q ∙ ap by p)))))
  where
    t : Tree
    t = tree_of n

    by : Option EntryRefusal → Option Made
    by o = as_changed n None (names.rename_at n dir name dir2 name2 o)

    cycle : (e : NameEntry) → names.entry_at n dir name ≡ Some e → (b : Bool) →
        (if b then refuses t 6 else trees.move t dir name (trees.entry e.directory dir2 name2 e.ino))
        ≡ as_changed n None (if b then Err refusals.Cycle else Ok (names.renamed n dir name dir2 name2 e))
    cycle e q true = refl
    cycle e q false =
        ap (λ es. makes (record { entries = es; next = n.next; limit = n.limit }) (answers.Named e.ino) None) (move_same n s dir name dir2 name2 e q)

    found : IsDirectory n.entries dir2 → (o : Option NameEntry) → names.entry_at n dir name ≡ o → (there : Option NameEntry) →
        names.entry_at n dir2 name2 ≡ there →
        trees.goes t dir name dir2 name2 (option_map entry_of o) (option_map entry_of there)
        ≡ as_changed n None (names.rename_found n dir name dir2 name2 o)
    found d None q there r = refl
    found d (Some e) q (Some other) r =
        sym (ap (λ x. as_changed n None (if is_some x then Err refusals.Exists else names.rename_free n dir name dir2 name2 e)) r)
    found d (Some e) q None r =
        ap (λ k. if e.directory && trees.lies_in t e.ino k dir2 then refuses t 6 else trees.move t dir name (trees.entry e.directory dir2 name2 e.ino))
        (length_map entry_of n.entries)
        ∙ (ap (λ b. if e.directory && b then refuses t 6 else trees.move t dir name (trees.entry e.directory dir2 name2 e.ino))
        (lies_same n s e.ino (length n.entries) dir2 d)
        ∙ (cycle e q (names.comes_under_itself n dir2 e)
        ∙ sym (ap (λ x. as_changed n None (if is_some x then Err refusals.Exists else names.rename_free n dir name dir2 name2 e)) r)))

-- The entries of a directory, in their order.
below_same : (a b : List ℕ) → trees.is_below a b ≡ names.name_below a b
unfolding trees.is_below names.name_below names.byte_below
below_same [] [] = refl
below_same (a ∷ as_) [] = refl
below_same [] (b ∷ bs) = refl
below_same (a ∷ as_) (b ∷ bs) = go (nat_lt a b) refl (a == b) refl (below_same as_ bs)
  where
    go : (l : Bool) → nat_lt a b ≡ l → (e : Bool) → (a == b) ≡ e → trees.is_below as_ bs ≡ names.name_below as_ bs →
        (l || (e && trees.is_below as_ bs)) ≡ (if e then names.name_below as_ bs else l)
    go true p true q h = let i = ltb-true a b p in let j = eqb-true a b q in absurd (none i j)
      where
        none : a < b → a ≡ b → ⊥
        none i j = omega (arith, i, j)
    go true p false q h = refl
    go false p true q h = h
    go false p false q h = refl

placed_same : (r : NameRow) (rows : List NameRow) → trees.placed r rows ≡ names.with_name_row r rows
unfolding trees.placed names.with_name_row names.row_placed
placed_same r [] = refl
placed_same r (x ∷ rows) =
    ap (λ b. if b then r ∷ (x ∷ rows) else x ∷ trees.placed r rows) (below_same r.name x.name)
    ∙ ap (λ ys. if names.name_below r.name x.name then r ∷ (x ∷ rows) else x ∷ ys) (placed_same r rows)

order_same : (rows : List NameRow) → trees.in_order rows ≡ names.by_name rows
unfolding trees.in_order names.by_name
order_same [] = refl
order_same (r ∷ rows) = ap (trees.placed r) (order_same rows) ∙ placed_same r (names.by_name rows)

rows_same : (dir : ℕ) (after : List ℕ) (es : List NameEntry) →
    map trees.row (map entry_of (filter (λ e. (e.dir == dir) && trees.is_below after e.name) es)) ≡ map names.name_row (filter (names.is_listed dir after) es)
rows_same dir after [] = refl
rows_same dir after (e ∷ es) = go (e.dir == dir) (below_same after e.name) (rows_same dir after es)
  where
    more : (b : Bool) → map trees.row (map entry_of (filter (λ e. (e.dir == dir) && trees.is_below after e.name) es))
        ≡ map names.name_row (filter (names.is_listed dir after) es) →
        map trees.row (map entry_of (cond b (e ∷ filter (λ e. (e.dir == dir) && trees.is_below after e.name) es)
        (filter (λ e. (e.dir == dir) && trees.is_below after e.name) es)))
        ≡ map names.name_row (cond b (e ∷ filter (names.is_listed dir after) es) (filter (names.is_listed dir after) es))
    more true h = ap (λ ys. names.name_row e ∷ ys) h
    more false h = h

    go : (b : Bool) → trees.is_below after e.name ≡ names.name_below after e.name →
        map trees.row (map entry_of (filter (λ e. (e.dir == dir) && trees.is_below after e.name) es)) ≡ map names.name_row
        (filter (names.is_listed dir after) es) →
        map trees.row (map entry_of (cond (b && trees.is_below after e.name) (e ∷ filter (λ e. (e.dir == dir) && trees.is_below after e.name) es)
        (filter (λ e. (e.dir == dir) && trees.is_below after e.name) es)))
        ≡ map names.name_row (cond (b && names.name_below after e.name) (e ∷ filter (names.is_listed dir after) es) (filter (names.is_listed dir after) es))
    go b l h =
        ap (λ z. map trees.row (map entry_of (cond (b && z) (e ∷ filter (λ e. (e.dir == dir) && trees.is_below after e.name) es)
        (filter (λ e. (e.dir == dir) && trees.is_below after e.name) es)))) l
        ∙ more (b && names.name_below after e.name) h

list_same : (n : Names) → IsSound n → (dir : ℕ) (after : List ℕ) → does (tree_of n) (asked.List dir after) ≡ as_listed n (names.list n dir after)
unfolding names.list names.list_at
list_same n s dir after =
    ap (λ k. trees.unless (tree_of n) k (makes (tree_of n) (answers.Listed (trees.listed (tree_of n) dir after)) None))
    (dir_fault (tree_of n) dir (names.kind_of n dir) (kind_is n s dir))
    ∙ go (names.dir_refusal n dir)
  where
    go : (o : Option EntryRefusal) →
        trees.unless (tree_of n) (code_or_0 o) (makes (tree_of n) (answers.Listed (trees.listed (tree_of n) dir after)) None)
        ≡ as_listed n (names.list_at n dir after o)
    go (Some r) = is_refused (tree_of n) r (makes (tree_of n) (answers.Listed (trees.listed (tree_of n) dir after)) None)
    go None =
        ap (λ es. makes (tree_of n) (answers.Listed (take 256 (trees.in_order (map trees.row es)))) None)
        (filter_as (λ e. (e.dir == dir) && trees.is_below after e.name) entry_of n.entries)
        ∙ (ap (λ rows. makes (tree_of n) (answers.Listed (take 256 (trees.in_order rows))) None) (rows_same dir after n.entries)
        ∙ ap (λ rows. makes (tree_of n) (answers.Listed (take 256 rows)) None) (order_same (map names.name_row (filter (names.is_listed dir after) n.entries))))

-- Removals: what a look-up says of a place.
pub record IsThere (n : Names) (dir : ℕ) (name : List ℕ) (ino : ℕ) : Type 0 where
  pub entry : NameEntry
  pub free : names.place_refusal n dir name ≡ None
  pub found : names.entry_at n dir name ≡ Some entry
  pub its : entry.ino ≡ ino
  pub has : Has entry n.entries

pub there : (n : Names) (dir : ℕ) (name : List ℕ) (ino : ℕ) → names.lookup n dir name ≡ Ok ino → IsThere n dir name ino
unfolding names.lookup names.lookup_at
there n dir name ino q = go (names.place_refusal n dir name) refl q
  where
    its : (o : Option NameEntry) → names.entry_at n dir name ≡ o → names.place_refusal n dir name ≡ None → names.ino_of o ≡ Ok ino → IsThere n dir name ino
    its None r p q = cc
    its (Some e) r p q = record { entry = e; free = p; found = r; its = is q; has = (found_at (names.is_entry_at dir name) n.entries e r).1 }
      where
        is : names.ino_of (Some e) ≡ Ok ino → e.ino ≡ ino
        is q = cc

    go : (o : Option EntryRefusal) → names.place_refusal n dir name ≡ o → names.lookup_at n dir name o ≡ Ok ino → IsThere n dir name ino
    go (Some r) p q = cc
    go None p q = its (names.entry_at n dir name) refl p q

remove_nothing : (n : Names) → IsSound n → (dir : ℕ) (name : List ℕ) (ino : ℕ) (r : EntryRefusal) → names.lookup n dir name ≡ Err r →
    does (tree_of n) (asked.Remove dir name ino) ≡ refuses (tree_of n) (names.code_of r)
unfolding names.lookup names.lookup_at
remove_nothing n s dir name ino r q =
    refused_or n s dir name (trees.removes (tree_of n) dir name ino (trees.entry_at (tree_of n) dir name)) (λ m. m ≡ refuses (tree_of n) (names.code_of r))
    (λ o p. ap (λ x. refuses (tree_of n) (names.code_of x)) (one o (sym (ap (names.lookup_at n dir name) p) ∙ q)))
    (λ p.
    ap (trees.removes (tree_of n) dir name ino) (entry_same n dir name)
    ∙ none (names.entry_at n dir name) (sym (ap (names.lookup_at n dir name) p) ∙ q))
  where
    one : (o : EntryRefusal) → names.lookup_at n dir name (Some o) ≡ Err r → o ≡ r
    one o q = cc

    none : (o : Option NameEntry) → names.ino_of o ≡ Err r →
        trees.removes (tree_of n) dir name ino (option_map entry_of o) ≡ refuses (tree_of n) (names.code_of r)
    none None q = ap (λ x. refuses (tree_of n) (names.code_of x)) (is q)
      where
        is : names.ino_of None ≡ Err r → refusals.NoEntry ≡ r
        is q = cc
    none (Some e) q = cc

-- what becomes of a remove if there is an entry
removing : (n : Names) → IsSound n → (dir : ℕ) (name : List ℕ) (ino there : ℕ) (i : IsThere n dir name there) →
    does (tree_of n) (asked.Remove dir name ino)
    ≡ (if i.entry.directory
    then trees.removes_dir (tree_of n) dir name ino (entry_of i.entry) else trees.removes_file (tree_of n) dir name ino (entry_of i.entry))
removing n s dir name ino there i =
    ap (λ k. trees.unless (tree_of n) k (trees.removes (tree_of n) dir name ino (trees.entry_at (tree_of n) dir name)))
    (place_fault n s dir name ∙ ap code_or_0 i.free)
    ∙ ap (trees.removes (tree_of n) dir name ino) (entry_same n dir name ∙ ap (option_map entry_of) i.found)

names_remove : (n : Names) (dir : ℕ) (name : List ℕ) (ino : ℕ) (i : IsThere n dir name ino) → names.remove n dir name ≡ names.remove_entry n dir name i.entry
unfolding names.remove names.remove_at names.remove_found
names_remove n dir name ino i = ap (names.remove_at n dir name) i.free ∙ ap (names.remove_found n dir name) i.found

-- the kind of the entry
pub kind_there : (n : Names) → IsSound n → (dir : ℕ) (name : List ℕ) (ino : ℕ) (i : IsThere n dir name ino) (b : Bool) → names.is_file n ino ≡ b →
    i.entry.directory ≡ not b
kind_there n s dir name ino i b q = turned i.entry.directory b (sym (file_at n s i.entry i.has) ∙ (ap (names.is_file n) i.its ∙ q))
  where
    turned : (d b : Bool) → not d ≡ b → d ≡ not b
    turned true b e = ap not e
    turned false b e = ap not e

without_same : (n : Names) (dir : ℕ) (name : List ℕ) (e : NameEntry) (removed : Option ℕ) (ino : ℕ) → e.ino ≡ ino →
    trees.takes_out (tree_of n) dir name ino removed ≡ as_changed n removed (Ok (names.without n dir name e))
unfolding names.without
without_same n dir name e removed ino q =
    ap (λ es. makes (record { entries = es; next = n.next; limit = n.limit }) (answers.Named ino) removed)
    (filter_as (λ d. not (trees.is_named dir name d)) entry_of n.entries)
    ∙ ap
    (λ k. makes (record { entries = map entry_of (filter (λ d. not (names.is_entry_at dir name d)) n.entries); next = n.next; limit = n.limit }) (answers.Named k)
    removed)
    (sym q)

remove_file : (n : Names) → IsSound n → (dir : ℕ) (name : List ℕ) (ino : ℕ) → names.lookup n dir name ≡ Ok ino → names.is_file n ino ≡ true →
    does (tree_of n) (asked.Remove dir name ino) ≡ as_changed n (Some ino) (names.remove n dir name)
unfolding names.remove_entry
remove_file n s dir name ino q f =
    let i = there n dir name ino q in
    let d = kind_there n s dir name ino i true f in
    removing n s dir name ino ino i
    ∙ (if_false i.entry.directory (trees.removes_dir (tree_of n) dir name ino (entry_of i.entry))
    (trees.removes_file (tree_of n) dir name ino (entry_of i.entry)) d
    ∙ (if_true (i.entry.ino == ino) (trees.takes_out (tree_of n) dir name ino (Some ino)) None (eq-eqb i.entry.ino ino i.its)
    ∙ (without_same n dir name i.entry (Some ino) ino i.its
    ∙ sym (ap (as_changed n (Some ino)) (names_remove n dir name ino i
    ∙ if_false (names.is_full n i.entry) (Err refusals.NotEmpty) (Ok (names.without n dir name i.entry))
    (and_left i.entry.directory (names.has_entries n i.entry.ino) d))))))

remove_other : (n : Names) → IsSound n → (dir : ℕ) (name : List ℕ) (ino other : ℕ) → names.lookup n dir name ≡ Ok other → names.is_file n other ≡ true →
    (other == ino) ≡ false → does (tree_of n) (asked.Remove dir name ino) ≡ None
remove_other n s dir name ino other q f e =
    let i = there n dir name other q in
    let d = kind_there n s dir name other i true f in
    removing n s dir name ino other i
    ∙ (if_false i.entry.directory (trees.removes_dir (tree_of n) dir name ino (entry_of i.entry))
    (trees.removes_file (tree_of n) dir name ino (entry_of i.entry)) d
    ∙ if_false (i.entry.ino == ino) (trees.takes_out (tree_of n) dir name ino (Some ino)) None (ap (λ k. k == ino) i.its ∙ e))

remove_directory : (n : Names) → IsSound n → (dir : ℕ) (name : List ℕ) (ino : ℕ) → names.lookup n dir name ≡ Ok ino → names.is_file n ino ≡ false →
    does (tree_of n) (asked.Remove dir name 0) ≡ as_changed n None (names.remove n dir name)
unfolding names.remove_entry
remove_directory n s dir name ino q f =
    let i = there n dir name ino q in
    let d = kind_there n s dir name ino i false f in
    removing n s dir name 0 ino i
    ∙ (if_true i.entry.directory (trees.removes_dir (tree_of n) dir name 0 (entry_of i.entry)) (trees.removes_file (tree_of n) dir name 0 (entry_of i.entry)) d
    ∙ (ap (λ b. if b then refuses (tree_of n) 5 else trees.takes_out (tree_of n) dir name i.entry.ino None)
    (any_as (λ e. e.dir == i.entry.ino) entry_of n.entries)
    ∙ (full i.entry (names.has_entries n i.entry.ino)
    ∙ sym (ap (as_changed n None) (names_remove n dir name ino i
    ∙ ap (λ b. if b && names.has_entries n i.entry.ino then Err refusals.NotEmpty else Ok (names.without n dir name i.entry)) d)))))
  where
    full : (e : NameEntry) (b : Bool) →
        (if b then refuses (tree_of n) 5 else trees.takes_out (tree_of n) dir name e.ino None)
        ≡ as_changed n None (if b then Err refusals.NotEmpty else Ok (names.without n dir name e))
    full e true = refl
    full e false = without_same n dir name e None e.ino refl

remove_refused : (n : Names) → IsSound n → (dir : ℕ) (name : List ℕ) (ino other : ℕ) → names.lookup n dir name ≡ Ok other → names.is_file n other ≡ false →
    does (tree_of n) (asked.Remove dir name (suc ino)) ≡ refuses (tree_of n) 4
remove_refused n s dir name ino other q f =
    let i = there n dir name other q in
    removing n s dir name (suc ino) other i
    ∙ if_true i.entry.directory (refuses (tree_of n) 4) (trees.removes_file (tree_of n) dir name (suc ino) (entry_of i.entry))
    (kind_there n s dir name other i false f)

pub does_the_same : SoundNamesDoTheSame
unfolding names.create names.mkdir
does_the_same n s =
    record {
      lookup = lookup_same n s;
      create = add_same n s false;
      mkdir = add_same n s true;
      rename = rename_same n s;
      list = list_same n s;
      remove_nothing = remove_nothing n s;
      remove_file = remove_file n s;
      remove_other = remove_other n s;
      remove_directory = remove_directory n s;
      remove_refused = remove_refused n s;
    }
