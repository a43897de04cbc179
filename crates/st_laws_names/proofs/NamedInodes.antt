-- A named inode changed names: if names answer a create, mkdir, remove or rename with an inode, they have changed then.
use Rattle.st_lemmas.proofs.Words
use Words.{◌≡◌, ℕ, ◌+◌, ◌≤◌, ◌<◌, suc, arith, Bool, true, false, not, ◌&&◌, ◌==◌, List, [], ◌∷◌, Option, Some, None, refl, sym, ap, ◌∙◌, subst, inl, inr}
use Words.{if◌then◌else◌, cond, filter, is_some, length, map, bytes_eq, nat_lt, Result as Res, Ok, Err, eqb-true, GrantNo, NameAsk, ServerId, EntryRefusal}
use Words.{NameEntry, false_from_ne_true}
use Words.names.{Lookup, Create, Mkdir, Remove, Rename, List as ListFrom}
use Words.answers
use Words.asks
use Words.ClientPasses.{name_op}
use Words.Names as names
use Words.Names.{Names, Changed, entry_at, is_entry_at, move_entry}
use Words.Lists.{Has}
use Words.Tables.{and_right, and_true, found_at, none_has}
use Words.Truth.{clash}
use Rattle.st_rules.specs.declared.names.EntryRefusal.TheVariants as names_refusal
use Rattle.st_promises.specs.NameAnswers.{Saying, changed, found, refused, said, same_entries, same_entry, same_names}
use Rattle.st_promises.specs.NamesOnce.{is_change_of}
use Rattle.st_laws_requests.specs.Cuts.Cuts.{does, does_remove}

-- Lists of entries.

same_length : (as_ bs : List NameEntry) → same_entries as_ bs ≡ true → length as_ ≡ length bs
unfolding same_entries
same_length [] [] e = refl
same_length [] (b ∷ bs) e = cc e
same_length (a ∷ as_) [] e = cc e
same_length (a ∷ as_) (b ∷ bs) e = ap suc (same_length as_ bs (and_true (same_entry a b) (same_entries as_ bs) e).1)

-- entries that each became another one, and are the same
same_each : (f : NameEntry → NameEntry) (es : List NameEntry) → same_entries es (map f es) ≡ true → (x : NameEntry) → Has x es → same_entry x (f x) ≡ true
unfolding same_entries
same_each f (e ∷ es) q x (inl i) = subst (λ y. same_entry y (f y) ≡ true) (sym i) (and_true (same_entry e (f e)) (same_entries es (map f es)) q).0
same_each f (e ∷ es) q x (inr i) = same_each f es (and_true (same_entry e (f e)) (same_entries es (map f es)) q).1 x i
same_each f [] q x i = absurd i

filter_less : (p : NameEntry → Bool) (es : List NameEntry) → length (filter p es) ≤ length es
filter_less p [] = omega arith
filter_less p (e ∷ es) = go (p e) refl (filter_less p es)
  where
    go : (b : Bool) → p e ≡ b → length (filter p es) ≤ length es → length (cond b (e ∷ filter p es) (filter p es)) ≤ suc (length es)
    go true q l = omega (arith, l)
    go false q l = omega (arith, l)

filter_fewer : (p : NameEntry → Bool) (es : List NameEntry) (x : NameEntry) → Has x es → p x ≡ false → length (filter p es) < length es
filter_fewer p (e ∷ es) x (inl i) q = subst (λ b. length (cond b (e ∷ filter p es) (filter p es)) < suc (length es)) (sym q ∙ ap p i) (let l = filter_less p es in omega (arith, l))
filter_fewer p (e ∷ es) x (inr i) q = go (p e) (filter_fewer p es x i q)
  where
    go : (b : Bool) → length (filter p es) < length es → length (cond b (e ∷ filter p es) (filter p es)) < suc (length es)
    go true l = omega (arith, l)
    go false l = omega (arith, l)
filter_fewer p [] x i q = absurd i

-- What changes names.

-- the next inode number has changed
added_other : (n : Names) (dir : ℕ) (x : List ℕ) (b : Bool) → same_names n (names.added n dir x b).names ≡ false
unfolding names.added
added_other n dir x b = and_right (same_entries n.entries _) _ (false_from_ne_true (n.next == n.next + 1) (λ e. let q = eqb-true n.next (n.next + 1) e in absurd (omega (arith, q))))

abbrev Other : Names → Res Changed EntryRefusal → Type 0
Other n (Ok d) = same_names n d.names ≡ false
Other n (Err r) = Unit {0}

add_other : (n : Names) (dir : ℕ) (x : List ℕ) (b : Bool) → Other n (names.add n dir x b)
unfolding names.add names.add_at names.add_beside names.add_new
add_other n dir x b = go (names.place_refusal n dir x)
  where
    room : (c : Bool) → Other n (if c then Ok (names.added n dir x b) else Err names_refusal.TooMany)
    room true = added_other n dir x b
    room false = tt

    beside : (c : Bool) → Other n (if c then Err names_refusal.Exists else names.add_new n dir x b)
    beside true = tt
    beside false = room (nat_lt (names.live_inodes n) n.limit)

    go : (o : Option EntryRefusal) → Other n (names.add_at n dir x b o)
    go (Some r) = tt
    go None = beside (is_some (entry_at n dir x))

-- an entry is gone
without_other : (n : Names) (dir : ℕ) (x : List ℕ) (e : NameEntry) → entry_at n dir x ≡ Some e → same_names n (names.without n dir x e).names ≡ false
unfolding names.without
without_other n dir x e q = ap (λ b. b && (n.next == n.next)) (false_from_ne_true _ differ)
  where
    at : (is_entry_at dir x e ≡ true) × Has e n.entries
    at = found_at (is_entry_at dir x) n.entries e q

    differ : same_entries n.entries (filter (λ d. not (is_entry_at dir x d)) n.entries) ≡ true → ⊥
    differ s = let l = filter_fewer (λ d. not (is_entry_at dir x d)) n.entries e at.1 (ap not at.0) in let m = same_length n.entries _ s in absurd (omega (arith, l, m))

remove_other : (n : Names) (dir : ℕ) (x : List ℕ) → Other n (names.remove n dir x)
unfolding names.remove names.remove_at names.remove_found names.remove_entry
remove_other n dir x = go (names.place_refusal n dir x)
  where
    entry : (e : NameEntry) → entry_at n dir x ≡ Some e → (c : Bool) → Other n (if c then Err names_refusal.NotEmpty else Ok (names.without n dir x e))
    entry e q true = tt
    entry e q false = without_other n dir x e q

    at : (o : Option NameEntry) → entry_at n dir x ≡ o → Other n (names.remove_found n dir x o)
    at None q = tt
    at (Some e) q = entry e q (names.is_full n e)

    go : (o : Option EntryRefusal) → Other n (names.remove_at n dir x o)
    go (Some r) = tt
    go None = at (entry_at n dir x) refl

-- an entry is at a place at which none was
renamed_other : (n : Names) (dir : ℕ) (x : List ℕ) (dir2 : ℕ) (x2 : List ℕ) (e : NameEntry) → entry_at n dir x ≡ Some e → entry_at n dir2 x2 ≡ None → same_names n (names.renamed n dir x dir2 x2 e).names ≡ false
unfolding names.renamed names.moved
renamed_other n dir x dir2 x2 e q free = ap (λ b. b && (n.next == n.next)) (false_from_ne_true _ differ)
  where
    at : (is_entry_at dir x e ≡ true) × Has e n.entries
    at = found_at (is_entry_at dir x) n.entries e q

    there : same_entry e (move_entry dir x dir2 x2 e) ≡ true → is_entry_at dir2 x2 e ≡ true
    there s = go (is_entry_at dir x e) at.0 s
      where
        three : (a b c : Bool) → (a && (b && c)) ≡ true → (a && b) ≡ true
        three true true c f = refl
        three true false c f = cc f
        three false b c f = cc f

        go : (b : Bool) → b ≡ true → same_entry e (if b then names.moved dir2 x2 e else e) ≡ true → is_entry_at dir2 x2 e ≡ true
        go true f s = three (e.dir == dir2) (bytes_eq e.name x2) _ s
        go false f s = cc f

    differ : same_entries n.entries (map (move_entry dir x dir2 x2) n.entries) ≡ true → ⊥
    differ s = clash (there (same_each (move_entry dir x dir2 x2) n.entries s e at.1)) (none_has (is_entry_at dir2 x2) n.entries free e at.1)

rename_other : (n : Names) (dir : ℕ) (x : List ℕ) (dir2 : ℕ) (x2 : List ℕ) → Other n (names.rename n dir x dir2 x2)
unfolding names.rename names.rename_at names.rename_found names.rename_entry names.rename_free
rename_other n dir x dir2 x2 = go _
  where
    cycle : (e : NameEntry) → entry_at n dir x ≡ Some e → entry_at n dir2 x2 ≡ None → (c : Bool) → Other n (if c then Err names_refusal.Cycle else Ok (names.renamed n dir x dir2 x2 e))
    cycle e q f true = tt
    cycle e q f false = renamed_other n dir x dir2 x2 e q f

    free : (e : NameEntry) → entry_at n dir x ≡ Some e → (o : Option NameEntry) → entry_at n dir2 x2 ≡ o → Other n (if is_some o then Err names_refusal.Exists else names.rename_free n dir x dir2 x2 e)
    free e q (Some d) f = tt
    free e q None f = cycle e q f (names.comes_under_itself n dir2 e)

    at : (o : Option NameEntry) → entry_at n dir x ≡ o → Other n (names.rename_found n dir x dir2 x2 o)
    at None q = tt
    at (Some e) q = free e q (entry_at n dir2 x2) refl

    go : (o : Option EntryRefusal) → Other n (names.rename_at n dir x dir2 x2 o)
    go (Some r) = tt
    go None = at (entry_at n dir x) refl

-- What is said.

-- an inode that is reported for a change
told_other : (n m : Names) (ino : ℕ) (r : Res Changed EntryRefusal) → Other n r → changed n r ≡ said m (answers.Named ino) → same_names n m ≡ false
told_other n m ino (Ok d) o e = subst (λ (v : Names). same_names n v ≡ false) (ap (λ (s : Saying). s.names) e) o
told_other n m ino (Err r) o e = cc (ap (λ (s : Saying). s.answer) e)

refused_none : (n m : Names) (ino : ℕ) (r : EntryRefusal) {A : Type 0} → refused n r ≡ said m (answers.Named ino) → A
refused_none n m ino r e = cc (ap (λ (s : Saying). s.answer) e)

-- A named inode changed names.
pub named_changes : (s : ServerId) (n m : Names) (ask : NameAsk) (g : GrantNo) (ino : ℕ) → is_change_of s (asks.Name s ask) ≡ true → does n (name_op ask g) ≡ said m (answers.Named ino) → same_names n m ≡ false
unfolding names.create names.mkdir
named_changes s n m (Create dir x) g ino f e = told_other n m ino _ (add_other n dir x false) e
named_changes s n m (Mkdir dir x) g ino f e = told_other n m ino _ (add_other n dir x true) e
named_changes s n m (Rename dir x dir2 x2) g ino f e = told_other n m ino _ (rename_other n dir x dir2 x2) e
named_changes s n m (Remove dir x i) g ino f e = go (names.lookup n dir x) e
  where
    dir_ : (c : Bool) → (if c then changed n (names.remove n dir x) else refused n names_refusal.IsDir) ≡ said m (answers.Named ino) → same_names n m ≡ false
    dir_ true e = told_other n m ino _ (remove_other n dir x) e
    dir_ false e = refused_none n m ino names_refusal.IsDir e

    file : (j : ℕ) (c : Bool) → (if c then changed n (names.remove n dir x) else (if g.0 == 0 then changed n (names.remove n dir x) else refused n names_refusal.IsDir)) ≡ said m (answers.Named ino) → same_names n m ≡ false
    file j true e = told_other n m ino _ (remove_other n dir x) e
    file j false e = dir_ (g.0 == 0) e

    go : (r : Res ℕ EntryRefusal) → does_remove n dir x g r ≡ said m (answers.Named ino) → same_names n m ≡ false
    go (Ok j) e = file j (names.is_file n j) e
    go (Err r) e = refused_none n m ino r e
named_changes s n m (Lookup dir x) g ino f e = cc f
named_changes s n m (ListFrom dir after) g ino f e = cc f
