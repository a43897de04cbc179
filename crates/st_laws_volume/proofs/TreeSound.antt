-- The names of a fresh server are sound, and each change keeps them so.
use Rattle.std.proofs.Common.{◌≡◌, ◌<◌, ℕ, ◌+◌, ◌⊎◌, arith, Bool, true, false, not, ◌&&◌, ◌==◌, List, [], ◌∷◌, ◌++◌, map, Option, Some, None, Ok, Err, refl, sym, ap, ◌∙◌, subst, inl, inr, if◌then◌else◌}
use Rattle.std.specs.Option.{option_or}
use Rattle.std.specs.Prelude.{bytes_eq, filter, is_some, nat_lt, Result}
use Rattle.std.proofs.lemmas.Bool.{eq-eqb, eqb-true}
use Rattle.std.proofs.lemmas.Slice.Eq.{bytes_eq-Decides}
use Rattle.st_rules.specs.declared.names.EntryRefusal.{EntryRefusal}
use Rattle.st_rules.specs.declared.names.EntryRefusal.TheVariants as refusals
use Rattle.st_rules.specs.declared.names.NameEntry.{NameEntry}
use Rattle.st_rules.specs.Names as names
use Rattle.st_rules.specs.Names.{Names}
use Rattle.st_lemmas.specs.Lists.{Has}
use Rattle.st_lemmas.proofs.Tables.{and_both, and_true, found_at, has_append, has_filter, has_filter_in, has_map, has_map_in, none_has, none_passes}
use Rattle.st_lemmas.proofs.Members.{has_left}
use Rattle.st_lemmas.proofs.Truth.{clash}
use Rattle.st_laws_volume.specs.TreeNames.{IsDirectory, IsKeptBy, IsSound, NamesStaySound}
use Rattle.st_laws_volume.proofs.TreeKinds.{place_is}

last_is : (es : List NameEntry) (new e : NameEntry) → Has e (es ++ new ∷ []) → Has e es ⊎ (e ≡ new)
last_is es new e h = go (has_append es (new ∷ []) e h)
  where
    go : Has e es ⊎ Has e (new ∷ []) → Has e es ⊎ (e ≡ new)
    go (inl i) = inl i
    go (inr (inl i)) = inr i
    go (inr (inr i)) = absurd i

directory_stays : (es fs : List NameEntry) (ino : ℕ) → ((d : NameEntry) → Has d es → Has d fs) → IsDirectory es ino → IsDirectory fs ino
directory_stays es fs ino h (inl r) = inl r
directory_stays es fs ino h (inr d) = inr (d.0, h d.0 d.1, d.2, d.3)

-- two entries at one place
same_place : (dir dir2 : ℕ) (name name2 : List ℕ) (e f : NameEntry) → names.is_entry_at dir name e ≡ true → names.is_entry_at dir name f ≡ true →
    f.dir ≡ dir2 → f.name ≡ name2 → names.is_entry_at dir2 name2 e ≡ true
same_place dir dir2 name name2 e f p q a b =
    let x = and_true (e.dir == dir) (bytes_eq e.name name) p in
    let y = and_true (f.dir == dir) (bytes_eq f.name name) q in
    and_both (e.dir == dir2) (bytes_eq e.name name2)
    (eq-eqb e.dir dir2 (eqb-true e.dir dir x.0 ∙ (sym (eqb-true f.dir dir y.0) ∙ a)))
    ((bytes_eq-Decides e.name name2).1 ((bytes_eq-Decides e.name name).0 x.1 ∙ (sym ((bytes_eq-Decides f.name name).0 y.1) ∙ b)))

module _ (n : Names) (s : IsSound n) (dir : ℕ) (name : List ℕ) (directory : Bool) (free : names.entry_at n dir name ≡ None) (d : IsDirectory n.entries dir)
  where
    new : NameEntry
    new = names.new_entry n dir name directory

    fresh : (e : NameEntry) → Has e n.entries → e.ino ≡ n.next → ⊥
    fresh e h q = let l = (s.numbers e h).1 in omega (arith, l, q)

    not_there : (e : NameEntry) → Has e n.entries → names.is_entry_at dir name e ≡ true → ⊥
    not_there e h p = clash p (none_has (names.is_entry_at dir name) n.entries free e h)

    add_inodes : (e f : NameEntry) → Has e n.entries ⊎ (e ≡ new) → Has f n.entries ⊎ (f ≡ new) → e.ino ≡ f.ino → e ≡ f
    unfolding new
    add_inodes e f (inl h) (inl i) q = s.inodes e f h i q
    add_inodes e f (inl h) (inr i) q = absurd (fresh e h (q ∙ ap (λ (x : NameEntry). x.ino) i))
    add_inodes e f (inr h) (inl i) q = absurd (fresh f i (sym q ∙ ap (λ (x : NameEntry). x.ino) h))
    add_inodes e f (inr h) (inr i) q = h ∙ sym i

    add_places : (x : ℕ) (y : List ℕ) (e f : NameEntry) → Has e n.entries ⊎ (e ≡ new) → Has f n.entries ⊎ (f ≡ new) → names.is_entry_at x y e ≡ true →
        names.is_entry_at x y f ≡ true → e ≡ f
    unfolding new
    add_places x y e f (inl h) (inl i) p q = s.places x y e f h i p q
    add_places x y e f (inl h) (inr i) p q =
        absurd (not_there e h (same_place x dir y name e f p q (ap (λ (z : NameEntry). z.dir) i) (ap (λ (z : NameEntry). z.name) i)))
    add_places x y e f (inr h) (inl i) p q =
        absurd (not_there f i (same_place x dir y name f e q p (ap (λ (z : NameEntry). z.dir) h) (ap (λ (z : NameEntry). z.name) h)))
    add_places x y e f (inr h) (inr i) p q = h ∙ sym i

    add_numbers : (e : NameEntry) → Has e n.entries ⊎ (e ≡ new) → (names.ROOT < e.ino) × (e.ino < n.next + 1)
    unfolding new
    add_numbers e (inl h) = let l = s.numbers e h in let a = l.1 in (l.0, omega (arith, a))
    add_numbers e (inr i) =
        let q = ap (λ (z : NameEntry). z.ino) i in let l = s.next in (subst (λ k. names.ROOT < k) (sym q) l, subst (λ k. k < n.next + 1) (sym q) (omega arith))

    add_within : (e : NameEntry) → Has e n.entries ⊎ (e ≡ new) → IsDirectory (n.entries ++ new ∷ []) e.dir
    unfolding new
    add_within e (inl h) = directory_stays n.entries (n.entries ++ new ∷ []) e.dir (λ x i. has_left n.entries (new ∷ []) x i) (s.within e h)
    add_within e (inr i) =
        subst (IsDirectory (n.entries ++ new ∷ [])) (sym (ap (λ (z : NameEntry). z.dir) i))
        (directory_stays n.entries (n.entries ++ new ∷ []) dir (λ x i. has_left n.entries (new ∷ []) x i) d)

    added_sound : IsSound (names.added n dir name directory).names
    unfolding new names.added
    added_sound =
        record {
          inodes = λ e f h i q. add_inodes e f (last_is n.entries new e h) (last_is n.entries new f i) q;
          places = λ x y e f h i p q. add_places x y e f (last_is n.entries new e h) (last_is n.entries new f i) p q;
          numbers = λ e h. add_numbers e (last_is n.entries new e h);
          next = let l = s.next in omega (arith, l);
          within = λ e h. add_within e (last_is n.entries new e h);
        }

add_sound : (directory : Bool) (dir : ℕ) (name : List ℕ) → IsKeptBy (λ n. names.add n dir name directory)
unfolding names.add names.add_at names.add_beside names.add_new
add_sound directory dir name n d s q = go (names.place_refusal n dir name) refl q
  where
    room : names.entry_at n dir name ≡ None → IsDirectory n.entries dir → (b : Bool) →
        ◌≡◌ {A = Result names.Changed EntryRefusal} (if b then Ok (names.added n dir name directory) else Err refusals.TooMany) (Ok d) → IsSound d.names
    room f i true q = subst (λ (x : names.Changed). IsSound x.names) (is q) (added_sound n s dir name directory f i)
      where
        is : ◌≡◌ {A = Result names.Changed EntryRefusal} (Ok (names.added n dir name directory)) (Ok d) → names.added n dir name directory ≡ d
        is q = cc
    room f i false q = cc

    beside : IsDirectory n.entries dir → (o : Option NameEntry) → names.entry_at n dir name ≡ o →
        ◌≡◌ {A = Result names.Changed EntryRefusal} (if is_some o then Err refusals.Exists else names.add_new n dir name directory) (Ok d) → IsSound d.names
    beside i (Some e) f q = cc
    beside i None f q = room f i (nat_lt (names.live_inodes n) n.limit) q

    go : (o : Option EntryRefusal) → names.place_refusal n dir name ≡ o → names.add_at n dir name directory o ≡ Ok d → IsSound d.names
    go (Some r) p q = cc
    go None p q = beside (place_is n dir name p) (names.entry_at n dir name) refl q

-- An entry goes.
module _ (n : Names) (s : IsSound n) (dir : ℕ) (name : List ℕ) (r : NameEntry) (found : names.entry_at n dir name ≡ Some r) (empty : names.is_full n r ≡ false)
  where
    left : List NameEntry
    left = filter (λ d. not (names.is_entry_at dir name d)) n.entries

    old : (e : NameEntry) → Has e left → Has e n.entries
    unfolding left
    old e h = (has_filter (λ d. not (names.is_entry_at dir name d)) n.entries e h).0

    stays : (e d : NameEntry) → Has e n.entries → Has d n.entries → d.ino ≡ e.dir → d.directory ≡ true → (b : Bool) → names.is_entry_at dir name d ≡ b →
        Has d left
    unfolding left
    stays e d h i q m false p = has_filter_in (λ d. not (names.is_entry_at dir name d)) n.entries d i (ap not p)
    stays e d h i q m true p =
        let z = found_at (names.is_entry_at dir name) n.entries r found in
        let same : d ≡ r = s.places dir name d r i z.1 p z.0 in
        let none : names.has_entries n r.ino ≡ false =
        sym (ap (λ b. b && names.has_entries n r.ino) (ap (λ (x : NameEntry). x.directory) (sym same) ∙ m)) ∙ empty in
        clash (eq-eqb e.dir r.ino (sym q ∙ ap (λ (x : NameEntry). x.ino) same)) (none_passes (names.is_in r.ino) n.entries none e h)

    left_within : (e : NameEntry) → Has e n.entries → IsDirectory n.entries e.dir → IsDirectory left e.dir
    left_within e h (inl q) = inl q
    left_within e h (inr d) = inr (d.0, stays e d.0 h d.1 d.2 d.3 (names.is_entry_at dir name d.0) refl, d.2, d.3)

    without_sound : IsSound (names.without n dir name r).names
    unfolding left names.without
    without_sound =
        record {
          inodes = λ e f h i q. s.inodes e f (old e h) (old f i) q;
          places = λ x y e f h i p q. s.places x y e f (old e h) (old f i) p q;
          numbers = λ e h. s.numbers e (old e h);
          next = s.next;
          within = λ e h. left_within e (old e h) (s.within e (old e h));
        }

remove_sound : (dir : ℕ) (name : List ℕ) → IsKeptBy (λ n. names.remove n dir name)
unfolding names.remove names.remove_at names.remove_found names.remove_entry
remove_sound dir name n d s q = go (names.place_refusal n dir name) q
  where
    full : (r : NameEntry) → names.entry_at n dir name ≡ Some r → (b : Bool) → names.is_full n r ≡ b →
        ◌≡◌ {A = Result names.Changed EntryRefusal} (if b then Err refusals.NotEmpty else Ok (names.without n dir name r)) (Ok d) → IsSound d.names
    full r f true e q = cc
    full r f false e q = subst (λ (x : names.Changed). IsSound x.names) (is q) (without_sound n s dir name r f e)
      where
        is : ◌≡◌ {A = Result names.Changed EntryRefusal} (Ok (names.without n dir name r)) (Ok d) → names.without n dir name r ≡ d
        is q = cc

    at : (o : Option NameEntry) → names.entry_at n dir name ≡ o → names.remove_found n dir name o ≡ Ok d → IsSound d.names
    at None f q = cc
    at (Some r) f q = full r f (names.is_full n r) refl q

    go : (o : Option EntryRefusal) → names.remove_at n dir name o ≡ Ok d → IsSound d.names
    go (Some r) q = cc
    go None q = at (names.entry_at n dir name) refl q

-- An entry moves.
module _
    (n : Names)
    (s : IsSound n)
    (dir : ℕ)
    (name : List ℕ)
    (dir2 : ℕ)
    (name2 : List ℕ)
    (free : names.entry_at n dir2 name2 ≡ None)
    (d : IsDirectory n.entries dir2) where
  goes : NameEntry → NameEntry
  goes = names.move_entry dir name dir2 name2

  -- the same inode, at the new place or the old one
  record Moves (x : NameEntry) : Type 0 where
    ino : (goes x).ino ≡ x.ino
    directory : (goes x).directory ≡ x.directory
    place :
        ((names.is_entry_at dir name x ≡ true) × ((goes x).dir ≡ dir2) × ((goes x).name ≡ name2))
        ⊎ (((goes x).dir ≡ x.dir) × ((goes x).name ≡ x.name))

  moves : (x : NameEntry) → Moves x
  unfolding goes names.moved
  moves x = go (names.is_entry_at dir name x) refl
    where
      go : (b : Bool) → names.is_entry_at dir name x ≡ b → Moves x
      go true p =
          let q : goes x ≡ names.moved dir2 name2 x = ap (λ b. if b then names.moved dir2 name2 x else x) p in
          record {
            ino = ap (λ (y : NameEntry). y.ino) q;
            directory = ap (λ (y : NameEntry). y.directory) q;
            place = inl (p, ap (λ (y : NameEntry). y.dir) q, ap (λ (y : NameEntry). y.name) q);
          }
      go false p =
          let q : goes x ≡ x = ap (λ b. if b then names.moved dir2 name2 x else x) p in
          record {
            ino = ap (λ (y : NameEntry). y.ino) q;
            directory = ap (λ (y : NameEntry). y.directory) q;
            place = inr (ap (λ (y : NameEntry). y.dir) q, ap (λ (y : NameEntry). y.name) q);
          }

  not_taken : (e : NameEntry) → Has e n.entries → names.is_entry_at dir2 name2 e ≡ true → ⊥
  not_taken e h p = clash p (none_has (names.is_entry_at dir2 name2) n.entries free e h)

  -- an entry at a place that it has kept
  was_at : (k : ℕ) (w : List ℕ) (x : NameEntry) → (goes x).dir ≡ x.dir → (goes x).name ≡ x.name → names.is_entry_at k w (goes x) ≡ true →
      names.is_entry_at k w x ≡ true
  was_at k w x a b p =
      let y = and_true ((goes x).dir == k) (bytes_eq (goes x).name w) p in
      and_both (x.dir == k) (bytes_eq x.name w) (ap (λ m. m == k) (sym a) ∙ y.0) (ap (λ m. bytes_eq m w) (sym b) ∙ y.1)

  move_places : (k : ℕ) (w : List ℕ) (x y : NameEntry) → Has x n.entries → Has y n.entries → names.is_entry_at k w (goes x) ≡ true →
      names.is_entry_at k w (goes y) ≡ true → x ≡ y
  move_places k w x y h i p q = go (moves x).place (moves y).place
    where
      go : ((names.is_entry_at dir name x ≡ true) × ((goes x).dir ≡ dir2) × ((goes x).name ≡ name2)) ⊎ (((goes x).dir ≡ x.dir) × ((goes x).name ≡ x.name)) →
          ((names.is_entry_at dir name y ≡ true) × ((goes y).dir ≡ dir2) × ((goes y).name ≡ name2)) ⊎ (((goes y).dir ≡ y.dir) × ((goes y).name ≡ y.name)) →
          x ≡ y
      go (inl a) (inl b) = s.places dir name x y h i a.0 b.0
      go (inl a) (inr b) = absurd (not_taken y i (same_place k dir2 w name2 y (goes x) (was_at k w y b.0 b.1 q) p a.1 a.2))
      go (inr a) (inl b) = absurd (not_taken x h (same_place k dir2 w name2 x (goes y) (was_at k w x a.0 a.1 p) q b.1 b.2))
      go (inr a) (inr b) = s.places k w x y h i (was_at k w x a.0 a.1 p) (was_at k w y b.0 b.1 q)

  moved_directory : (ino : ℕ) → IsDirectory n.entries ino → IsDirectory (map goes n.entries) ino
  moved_directory ino (inl q) = inl q
  moved_directory ino (inr x) =
      inr (goes x.0, has_map_in goes n.entries x.0 x.1, (moves x.0).ino ∙ x.2, (moves x.0).directory ∙ x.3)

  moved_within : (x : NameEntry) → Has x n.entries → IsDirectory (map goes n.entries) (goes x).dir
  moved_within x h = go (moves x).place
    where
      go : ((names.is_entry_at dir name x ≡ true) × ((goes x).dir ≡ dir2) × ((goes x).name ≡ name2)) ⊎ (((goes x).dir ≡ x.dir) × ((goes x).name ≡ x.name)) →
          IsDirectory (map goes n.entries) (goes x).dir
      go (inl a) = subst (IsDirectory (map goes n.entries)) (sym a.1) (moved_directory dir2 d)
      go (inr a) = subst (IsDirectory (map goes n.entries)) (sym a.0) (moved_directory x.dir (s.within x h))

  renamed_sound : (e : NameEntry) → IsSound (names.renamed n dir name dir2 name2 e).names
  unfolding goes names.renamed
  renamed_sound r =
      record {
        inodes =
            λ e f h i q.
            let x = has_map goes n.entries e h in
            let y = has_map goes n.entries f i in
            x.2 ∙ (ap goes (s.inodes x.0 y.0 x.1 y.1
            (sym (moves x.0).ino ∙ (ap (λ (z : NameEntry). z.ino) (sym x.2) ∙ (q ∙ (ap (λ (z : NameEntry). z.ino) y.2 ∙ (moves y.0).ino))))) ∙ sym y.2);
        places =
            λ k w e f h i p q.
            let x = has_map goes n.entries e h in
            let y = has_map goes n.entries f i in
            x.2 ∙ (ap goes (move_places k w x.0 y.0 x.1 y.1 (ap (names.is_entry_at k w) (sym x.2) ∙ p) (ap (names.is_entry_at k w) (sym y.2) ∙ q)) ∙ sym y.2);
        numbers =
            λ e h.
            let x = has_map goes n.entries e h in
            let l = s.numbers x.0 x.1 in
            let q : x.0.ino ≡ e.ino = sym (moves x.0).ino ∙ ap (λ (z : NameEntry). z.ino) (sym x.2) in
            (subst (λ m. names.ROOT < m) q l.0, subst (λ m. m < n.next) q l.1);
        next = s.next;
        within =
            λ e h.
            let x = has_map goes n.entries e h in
            subst (IsDirectory (map goes n.entries)) (ap (λ (z : NameEntry). z.dir) (sym x.2)) (moved_within x.0 x.1);
      }

rename_sound : (dir : ℕ) (name : List ℕ) (dir2 : ℕ) (name2 : List ℕ) → IsKeptBy (λ n. names.rename n dir name dir2 name2)
unfolding names.rename names.rename_at names.rename_found names.rename_entry names.rename_free
rename_sound dir name dir2 name2 n d s q = go (names.place_refusal n dir name) (names.place_refusal n dir2 name2) refl q
  where
    cycle : IsDirectory n.entries dir2 → names.entry_at n dir2 name2 ≡ None → (e : NameEntry) → (b : Bool) →
        ◌≡◌ {A = Result names.Changed EntryRefusal} (if b then Err refusals.Cycle else Ok (names.renamed n dir name dir2 name2 e)) (Ok d) → IsSound d.names
    cycle i f e true q = cc
    cycle i f e false q = subst (λ (x : names.Changed). IsSound x.names) (is q) (renamed_sound n s dir name dir2 name2 f i e)
      where
        is : ◌≡◌ {A = Result names.Changed EntryRefusal} (Ok (names.renamed n dir name dir2 name2 e)) (Ok d) → names.renamed n dir name dir2 name2 e ≡ d
        is q = cc

    free : IsDirectory n.entries dir2 → (e : NameEntry) → (o : Option NameEntry) → names.entry_at n dir2 name2 ≡ o →
        ◌≡◌ {A = Result names.Changed EntryRefusal} (if is_some o then Err refusals.Exists else names.rename_free n dir name dir2 name2 e) (Ok d) →
        IsSound d.names
    free i e (Some x) f q = cc
    free i e None f q = cycle i f e (names.comes_under_itself n dir2 e) q

    at : IsDirectory n.entries dir2 → (o : Option NameEntry) → names.rename_found n dir name dir2 name2 o ≡ Ok d → IsSound d.names
    at i None q = cc
    at i (Some e) q = free i e (names.entry_at n dir2 name2) refl q

    go : (o p : Option EntryRefusal) → names.place_refusal n dir2 name2 ≡ p → names.rename_at n dir name dir2 name2 (option_or o p) ≡ Ok d → IsSound d.names
    go (Some r) p f q = cc
    go None (Some r) f q = cc
    go None None f q = at (place_is n dir2 name2 f) (names.entry_at n dir name) q

-- A fresh server.
abbrev inodes : List ℕ
inodes = 2 ∷ 3 ∷ 4 ∷ 5 ∷ 6 ∷ 7 ∷ 8 ∷ 9 ∷ []

within_ten : (x : ℕ) → Has x inodes → (1 < x) × (x < 10)
within_ten x (inl q) = (omega (arith, q), omega (arith, q))
within_ten x (inr (inl q)) = (omega (arith, q), omega (arith, q))
within_ten x (inr (inr (inl q))) = (omega (arith, q), omega (arith, q))
within_ten x (inr (inr (inr (inl q)))) = (omega (arith, q), omega (arith, q))
within_ten x (inr (inr (inr (inr (inl q))))) = (omega (arith, q), omega (arith, q))
within_ten x (inr (inr (inr (inr (inr (inl q)))))) = (omega (arith, q), omega (arith, q))
within_ten x (inr (inr (inr (inr (inr (inr (inl q))))))) = (omega (arith, q), omega (arith, q))
within_ten x (inr (inr (inr (inr (inr (inr (inr (inl q)))))))) = (omega (arith, q), omega (arith, q))
within_ten x (inr (inr (inr (inr (inr (inr (inr (inr q)))))))) = absurd q

second : List ℕ → ℕ
second (a ∷ b ∷ rest) = b
second bytes = 0

same_name : (x y : ℕ) (w : List ℕ) → bytes_eq (names.fresh_file x).name w ≡ true → bytes_eq (names.fresh_file y).name w ≡ true → x ≡ y
unfolding second
same_name x y w p q = level (ap second ((bytes_eq-Decides (names.fresh_file x).name w).0 p ∙ sym ((bytes_eq-Decides (names.fresh_file y).name w).0 q)))
  where
    level : 48 + x ≡ 48 + y → x ≡ y
    level e = omega (arith, e)

fresh_places : (k : ℕ) (w : List ℕ) (e f : NameEntry) → Has e (map names.fresh_file inodes) → Has f (map names.fresh_file inodes) →
    names.is_entry_at k w e ≡ true → names.is_entry_at k w f ≡ true → e ≡ f
fresh_places k w e f h i p q =
    let x = has_map names.fresh_file inodes e h in
    let y = has_map names.fresh_file inodes f i in
    let a = ap (names.is_entry_at k w) (sym x.2) ∙ p in
    let b = ap (names.is_entry_at k w) (sym y.2) ∙ q in
    x.2
    ∙ (ap names.fresh_file (same_name x.0 y.0 w (and_true (names.ROOT == k) (bytes_eq (names.fresh_file x.0).name w) a).1
    (and_true (names.ROOT == k) (bytes_eq (names.fresh_file y.0).name w) b).1)
    ∙ sym y.2)

fresh_sound : IsSound names.fresh_names
unfolding names.fresh_names
fresh_sound =
    record {
      inodes =
          λ e f h i q.
          let x = has_map names.fresh_file inodes e h in
          let y = has_map names.fresh_file inodes f i in
          x.2 ∙ (ap names.fresh_file (ap (λ (z : NameEntry). z.ino) (sym x.2) ∙ (q ∙ ap (λ (z : NameEntry). z.ino) y.2)) ∙ sym y.2);
      places = fresh_places;
      numbers =
          λ e h.
          let x = has_map names.fresh_file inodes e h in
          let l = within_ten x.0 x.1 in
          let q = ap (λ (z : NameEntry). z.ino) (sym x.2) in
          (subst (λ m. 1 < m) q l.0, subst (λ m. m < 10) q l.1);
      next = omega arith;
      within = λ e h. let x = has_map names.fresh_file inodes e h in inl (ap (λ (z : NameEntry). z.dir) x.2);
    }

pub stay_sound : NamesStaySound
unfolding names.create names.mkdir
stay_sound = record { fresh = fresh_sound; create = add_sound false; mkdir = add_sound true; remove = remove_sound; rename = rename_sound }
