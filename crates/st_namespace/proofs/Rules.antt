-- What adding, removing and renaming give, case by case.
use Rattle.std.proofs.Common.{◌≡◌, ℕ, Bool, true, false, cond, List, Option, Some, None, Ok, Err, Result, refl, sym, ap, true≢false, map, length, arith, ◌<◌}
use Rattle.std.specs.Prelude.{◌&&◌, nat_lt, not, filter, is_some, unwrap_or, option_map, is_ok}
use Rattle.std.specs.Option.{option_or}
use Rattle.std.proofs.lemmas.Bool.{ltb-true}
use Rattle.st_base.specs.declared.names.NameRefusal.{NameRefusal}
use Rattle.st_base.specs.declared.names.NameRefusal.TheVariants as told
use Rattle.st_rules.specs.declared.names.NameEntry.{NameEntry}
use Rattle.st_rules.specs.declared.names.EntryRefusal.{EntryRefusal}
use Rattle.st_rules.specs.declared.names.EntryRefusal.TheVariants.{NoEntry, Exists, NotEmpty, Cycle, TooMany}
use Rattle.st_rules.specs.Names.{Names, Changed, place_refusal, entry_at, is_entry_at, has_entries, is_under, move_entry, add, add_at, add_beside, add_new, added, live_inodes, rename, rename_at, rename_found, rename_entry, rename_free, renamed, remove, remove_at, remove_found, remove_entry, without}
use Rattle.st_namespace.specs.Answers.{answer, as_told, ino_and_mark, ino_told}

err_to : Result ℕ NameRefusal → Result Changed NameRefusal
err_to (Ok k) = Err told.NoEntry
err_to (Err r) = Err r

-- a refusal that is returned is the rule's
pub told_refusal : (t : Result Changed EntryRefusal) (r : NameRefusal) → Err r ≡ ino_told t → answer t ≡ Err r
unfolding err_to
told_refusal (Ok c) r h = absurd (true≢false (sym (ap is_ok h)))
told_refusal (Err s) r h = ap err_to (sym h)

not_err : (i : ℕ) (r : NameRefusal) → Ok i ≡ Err r → ⊥
not_err i r h = true≢false (ap is_ok h)

-- the parts of what was found
same_ino : (e : NameEntry) (i : ℕ) (b : Bool) → Some (i, b) ≡ Some (ino_and_mark e) → i ≡ e.ino
same_ino e i b h = ap (λ (o : Option (ℕ × Bool)). (unwrap_or o (i, b)).0) h

same_mark : (e : NameEntry) (i : ℕ) (b : Bool) → Some (i, b) ≡ Some (ino_and_mark e) → b ≡ e.directory
same_mark e i b h = ap (λ (o : Option (ℕ × Bool)). (unwrap_or o (i, b)).1) h

module _ (n : Names) (d : ℕ) (m : List ℕ) where
  pub remove_place : (r : EntryRefusal) → Some r ≡ place_refusal n d m → remove n d m ≡ Err r
  unfolding remove remove_at
  remove_place r h = rw (← h) refl

  missing_in : (o : Option NameEntry) → None ≡ option_map ino_and_mark o → remove_found n d m o ≡ Err NoEntry
  unfolding remove_found
  missing_in None h = refl
  missing_in (Some e) h = absurd (true≢false (sym (ap is_some h)))

  pub remove_missing : None ≡ place_refusal n d m → None ≡ option_map ino_and_mark (entry_at n d m) → remove n d m ≡ Err NoEntry
  unfolding remove remove_at
  remove_missing p h = rw (← p) (missing_in (entry_at n d m) h)

  full_in : (o : Option NameEntry) (i : ℕ) (b : Bool) → Some (i, b) ≡ option_map ino_and_mark o → (b && has_entries n i) ≡ true →
      remove_found n d m o ≡ Err NotEmpty
  unfolding remove_found remove_entry
  full_in None i b h t = absurd (true≢false (ap is_some h))
  full_in (Some e) i b h t = rw (rw (same_ino e i b h, same_mark e i b h) at t) refl

  pub remove_full : (i : ℕ) (b : Bool) → None ≡ place_refusal n d m → Some (i, b) ≡ option_map ino_and_mark (entry_at n d m) → (b && has_entries n i) ≡ true →
      remove n d m ≡ Err NotEmpty
  unfolding remove remove_at
  remove_full i b p h t = rw (← p) (full_in (entry_at n d m) i b h t)

  gone_in : (o : Option NameEntry) (i : ℕ) (b : Bool) → Some (i, b) ≡ option_map ino_and_mark o → (b && has_entries n i) ≡ false →
      remove_found n d m o ≡
      Ok (record { names = record { entries = filter (λ e. not (is_entry_at d m e)) n.entries; next = n.next; limit = n.limit }; ino = i })
  unfolding remove_found remove_entry without
  gone_in None i b h t = absurd (true≢false (ap is_some h))
  gone_in (Some e) i b h t = rw (same_ino e i b h, rw (same_ino e i b h, same_mark e i b h) at t) refl

  pub remove_gives : (i : ℕ) (b : Bool) → None ≡ place_refusal n d m → Some (i, b) ≡ option_map ino_and_mark (entry_at n d m) → (b && has_entries n i) ≡ false →
      remove n d m ≡ Ok (record { names = record { entries = filter (λ e. not (is_entry_at d m e)) n.entries; next = n.next; limit = n.limit }; ino = i })
  unfolding remove remove_at
  remove_gives i b p h t = rw (← p) (gone_in (entry_at n d m) i b h t)

  abbrev gone : ℕ → Result Changed EntryRefusal
  gone k = Ok (record { names = record { entries = filter (λ e. not (is_entry_at d m e)) n.entries; next = n.next; limit = n.limit }; ino = k })

  gone_by : Result ℕ NameRefusal → Result Changed EntryRefusal
  gone_by (Ok k) = gone k
  gone_by (Err r) = Err NoEntry

  told_gone : (e : NameEntry) (i : ℕ) (b : Bool) → Ok i ≡ ino_told (cond b (Err NotEmpty) (Ok (without n d m e))) →
      cond b (Err NotEmpty) (Ok (without n d m e)) ≡ gone i
  unfolding without gone_by
  told_gone e i true h = absurd (not_err i told.NotEmpty h)
  told_gone e i false h = ap gone_by (sym h)

  told_found : (o : Option NameEntry) (i : ℕ) → Ok i ≡ ino_told (remove_found n d m o) → remove_found n d m o ≡ gone i
  unfolding remove_found remove_entry
  told_found None i h = absurd (not_err i told.NoEntry h)
  told_found (Some e) i h = told_gone e i (e.directory && has_entries n e.ino) h

  told_removed : (o : Option EntryRefusal) (i : ℕ) → Ok i ≡ ino_told (remove_at n d m o) → remove_at n d m o ≡ gone i
  unfolding remove_at
  told_removed (Some r) i h = absurd (not_err i (as_told r) h)
  told_removed None i h = told_found (entry_at n d m) i h

  -- an entry that may go
  pub remove_gone : (i : ℕ) → Ok i ≡ ino_told (remove n d m) →
      remove n d m ≡ Ok (record { names = record { entries = filter (λ e. not (is_entry_at d m e)) n.entries; next = n.next; limit = n.limit }; ino = i })
  unfolding remove
  remove_gone i h = told_removed (place_refusal n d m) i h

  module _ (directory : Bool) where
    -- the answer for an entry that may be added
    pub record IsAddable (t : Result Changed EntryRefusal) : Type 0 where
      pub added : t ≡ Ok (added n d m directory)
      pub free : is_some (entry_at n d m) ≡ false
      pub room : live_inodes n < n.limit

    addable_new : (b : Bool) (i : ℕ) → nat_lt (live_inodes n) n.limit ≡ b → is_some (entry_at n d m) ≡ false →
        Ok i ≡ ino_told (cond b (Ok (added n d m directory)) (Err TooMany)) → IsAddable (cond b (Ok (added n d m directory)) (Err TooMany))
    addable_new true i is free h = record { added = refl; free = free; room = ltb-true (live_inodes n) n.limit is }
    addable_new false i is free h = absurd (not_err i told.TooMany h)

    addable_beside : (b : Bool) (i : ℕ) → is_some (entry_at n d m) ≡ b → Ok i ≡ ino_told (cond b (Err Exists) (add_new n d m directory)) →
        IsAddable (cond b (Err Exists) (add_new n d m directory))
    unfolding add_new
    addable_beside true i is h = absurd (not_err i told.Exists h)
    addable_beside false i is h = addable_new (nat_lt (live_inodes n) n.limit) i refl is h

    addable_at : (o : Option EntryRefusal) (i : ℕ) → Ok i ≡ ino_told (add_at n d m directory o) → IsAddable (add_at n d m directory o)
    unfolding add_at add_beside
    addable_at (Some r) i h = absurd (not_err i (as_told r) h)
    addable_at None i h = addable_beside (is_some (entry_at n d m)) i refl h

    -- an entry that may be added: its name is free in its directory, and there is room
    pub addable : (i : ℕ) → Ok i ≡ ino_told (add n d m directory) → IsAddable (add n d m directory)
    unfolding add
    addable i h = addable_at (place_refusal n d m) i h

  module _ (d2 : ℕ) (m2 : List ℕ) where
    pub moved_missing : (o : Option NameEntry) → None ≡ option_map ino_and_mark o → Err told.NoEntry ≡ ino_told (rename_found n d m d2 m2 o)
    unfolding rename_found
    moved_missing None h = refl
    moved_missing (Some e) h = absurd (true≢false (sym (ap is_some h)))

    pub moved_exists : (o : Option NameEntry) (i : ℕ) (b : Bool) → Some (i, b) ≡ option_map ino_and_mark o → is_some (entry_at n d2 m2) ≡ true →
        Err told.Exists ≡ ino_told (rename_found n d m d2 m2 o)
    unfolding rename_found rename_entry
    moved_exists None i b h t = absurd (true≢false (ap is_some h))
    moved_exists (Some e) i b h t = rw t refl

    pub moved_cycle : (o : Option NameEntry) (i : ℕ) (b : Bool) → Some (i, b) ≡ option_map ino_and_mark o → is_some (entry_at n d2 m2) ≡ false →
        (b && is_under n i d2) ≡ true → Err told.Cycle ≡ ino_told (rename_found n d m d2 m2 o)
    unfolding rename_found rename_entry rename_free
    moved_cycle None i b h t u = absurd (true≢false (ap is_some h))
    moved_cycle (Some e) i b h t u = rw (t, rw (same_ino e i b h, same_mark e i b h) at u) refl

    pub moved_gives : (o : Option NameEntry) (i : ℕ) (b : Bool) → Some (i, b) ≡ option_map ino_and_mark o → is_some (entry_at n d2 m2) ≡ false →
        (b && is_under n i d2) ≡ false → Ok i ≡ ino_told (rename_found n d m d2 m2 o)
    unfolding rename_found rename_entry rename_free renamed
    moved_gives None i b h t u = absurd (true≢false (ap is_some h))
    moved_gives (Some e) i b h t u = rw (t, rw (same_ino e i b h, same_mark e i b h) at u) (rw (same_ino e i b h) refl)

    pub rename_first_place : (r : EntryRefusal) → Some r ≡ place_refusal n d m → rename n d m d2 m2 ≡ Err r
    unfolding rename rename_at
    rename_first_place r h = rw (← h) refl

    pub rename_second_place : (r : EntryRefusal) → None ≡ place_refusal n d m → Some r ≡ place_refusal n d2 m2 → rename n d m d2 m2 ≡ Err r
    unfolding rename rename_at
    rename_second_place r g h = rw (← g, ← h) refl

    -- if neither place is refused
    pub rename_at_good : None ≡ place_refusal n d m → None ≡ place_refusal n d2 m2 → rename n d m d2 m2 ≡ rename_found n d m d2 m2 (entry_at n d m)
    unfolding rename rename_at
    rename_at_good g h = rw (← g, ← h) refl

    abbrev made : ℕ → Result Changed EntryRefusal
    made k = Ok (record { names = record { entries = map (move_entry d m d2 m2) n.entries; next = n.next; limit = n.limit }; ino = k })

    made_in : Result ℕ NameRefusal → Result Changed EntryRefusal
    made_in (Ok k) = made k
    made_in (Err r) = Err NoEntry

    free_in : (e : NameEntry) (i : ℕ) (b : Bool) → Ok i ≡ ino_told (cond b (Err Cycle) (Ok (renamed n d m d2 m2 e))) →
        cond b (Err Cycle) (Ok (renamed n d m d2 m2 e)) ≡ made i
    unfolding renamed made_in
    free_in e i true h = absurd (not_err i told.Cycle h)
    free_in e i false h = ap made_in (sym h)

    entry_in : (e : NameEntry) (i : ℕ) (b : Bool) → Ok i ≡ ino_told (cond b (Err Exists) (rename_free n d m d2 m2 e)) →
        cond b (Err Exists) (rename_free n d m d2 m2 e) ≡ made i
    unfolding rename_free
    entry_in e i true h = absurd (not_err i told.Exists h)
    entry_in e i false h = free_in e i (e.directory && is_under n e.ino d2) h

    told_in : (o : Option NameEntry) (i : ℕ) → Ok i ≡ ino_told (rename_found n d m d2 m2 o) → rename_found n d m d2 m2 o ≡ made i
    unfolding rename_found rename_entry
    told_in None i h = absurd (not_err i told.NoEntry h)
    told_in (Some e) i h = entry_in e i (is_some (entry_at n d2 m2)) h

    told_at : (o : Option EntryRefusal) (i : ℕ) → Ok i ≡ ino_told (rename_at n d m d2 m2 o) → rename_at n d m d2 m2 o ≡ made i
    unfolding rename_at
    told_at (Some r) i h = absurd (not_err i (as_told r) h)
    told_at None i h = told_in (entry_at n d m) i h

    pub rename_gives : (i : ℕ) → Ok i ≡ ino_told (rename n d m d2 m2) →
        rename n d m d2 m2 ≡ Ok (record { names = record { entries = map (move_entry d m d2 m2) n.entries; next = n.next; limit = n.limit }; ino = i })
    unfolding rename
    rename_gives i h = told_at (option_or (place_refusal n d m) (place_refusal n d2 m2)) i h
