-- What the changes of names keep, and that what they answer can be told.
use Rattle.st_lemmas.proofs.Words
use Words.{◌≡◌, ℕ, zero, suc, ◌-◌, ◌^◌, ◌<◌, ◌≤◌, Bool, true, false, not, cond, List, [], ◌∷◌, length, take, Option, Some, None, refl, arith, filter, map}
use Words.{is_some, nat_lt, nat_le, Result, Ok, Err, list_all, and_parts, and_from, le-leb, NameRow, NameEntry, EntryRefusal}
use Words.bodies
use Words.replies.{Ino, Listed, Refused}
use Words.Kinds.{between}
use Words.Ranges.{are_names, are_rows, after_name, has_length, is_body, is_ino, is_name_reply, is_name_row}
use Words.Names as names
use Words.Names.{Names, Changed}
use Words.Tables.{cond_either}
use Rattle.std.specs.Option.{option_or}
use Rattle.st_rules.specs.declared.names.EntryRefusal.TheVariants.{NoEntry, Exists, NotDir, IsDir, NotEmpty, Cycle, BadName, TooMany}
use Rattle.st_server.specs.Invariants.{AreNamed, is_good_entry, is_reply}
use Rattle.st_server.proofs.Every.{every_filter, every_found, every_last, every_map}

-- the number of a refusal can be told
pub code_fits : (r : EntryRefusal) → is_reply (bodies.Named (Refused (names.code_of r))) ≡ true
unfolding is_body is_name_reply
code_fits NoEntry = refl
code_fits Exists = refl
code_fits NotDir = refl
code_fits IsDir = refl
code_fits NotEmpty = refl
code_fits Cycle = refl
code_fits BadName = refl
code_fits TooMany = refl

-- an inode can be told
pub ino_fits : (ino : ℕ) → is_ino ino ≡ true → is_reply (bodies.Named (Ino ino)) ≡ true
unfolding is_body is_name_reply
ino_fits ino e = e

entry_ino : (e : NameEntry) → is_good_entry e ≡ true → is_ino e.ino ≡ true
entry_ino e h = (and_parts (is_ino e.ino) (has_length 1 64 e.name) h).0

-- a good name is short enough
name_short : (name : List ℕ) → names.is_good name ≡ true → has_length 1 64 name ≡ true
unfolding names.is_good
name_short name e = (and_parts (has_length 1 64 name) _ e).0

-- Looking up.
abbrev pub Finds : Result ℕ EntryRefusal → Type 0
Finds (Ok ino) = is_ino ino ≡ true
Finds (Err r) = Unit {0}

module _ (n : Names) (h : AreNamed n) where
  ino_found : (o : Option NameEntry) → ((e : NameEntry) → o ≡ Some e → is_good_entry e ≡ true) → Finds (names.ino_of o)
  ino_found None good = tt
  ino_found (Some e) good = entry_ino e (good e refl)

  at_finds : (dir : ℕ) (name : List ℕ) (o : Option EntryRefusal) → Finds (names.lookup_at n dir name o)
  unfolding names.lookup_at
  at_finds dir name (Some r) = tt
  at_finds dir name None = ino_found (names.entry_at n dir name) (λ e q. every_found is_good_entry (names.is_entry_at dir name) n.entries e h.entries q)

  pub finds : (dir : ℕ) (name : List ℕ) → Finds (names.lookup n dir name)
  unfolding names.lookup
  finds dir name = at_finds dir name (names.place_refusal n dir name)

  -- Changes.
  pub record Changes (c : Changed) : Type 0 where
    pub named : AreNamed c.names
    pub ino : is_ino c.ino ≡ true

  abbrev pub ChangesBy : Result Changed EntryRefusal → Type 0
  ChangesBy (Ok c) = Changes c
  ChangesBy (Err r) = Unit {0}

  ino_next : n.next < 2 ^ 32 - 1 → is_ino n.next ≡ true
  ino_next b = and_from (nat_le 1 n.next) (nat_le n.next 4294967295) (le-leb 1 n.next h.next) (le-leb n.next 4294967295 (omega (arith, b)))

  name_of : (name : List ℕ) → names.name_refusal name ≡ None → names.is_good name ≡ true
  name_of name e = go (names.is_good name) e
    where
      go : (b : Bool) → cond b None (Some BadName) ≡ None → b ≡ true
      go true q = refl
      go false q = cc

  place_name : (dir : ℕ) (name : List ℕ) → names.place_refusal n dir name ≡ None → names.is_good name ≡ true
  unfolding names.place_refusal
  place_name dir name e = go (names.dir_refusal n dir) e
    where
      go : (o : Option EntryRefusal) → option_or o (names.name_refusal name) ≡ None → names.is_good name ≡ true
      go None q = name_of name q
      go (Some r) q = cc

  added_changes : (dir : ℕ) (name : List ℕ) (directory : Bool) → n.next < 2 ^ 32 - 1 → has_length 1 64 name ≡ true → Changes (names.added n dir name directory)
  unfolding names.added
  added_changes dir name directory b e =
      record {
        named = record {
          entries = every_last is_good_entry n.entries (names.new_entry n dir name directory) h.entries (and_from (is_ino n.next) (has_length 1 64 name) (ino_next b) e);
          next = omega (arith, h.next);
        };
        ino = ino_next b;
      }

  add_at_changes : (dir : ℕ) (name : List ℕ) (directory : Bool) (o : Option EntryRefusal) → n.next < 2 ^ 32 - 1 → names.place_refusal n dir name ≡ o →
      ChangesBy (names.add_at n dir name directory o)
  unfolding names.add_at names.add_beside names.add_new
  add_at_changes dir name directory (Some r) b e = tt
  add_at_changes dir name directory None b e =
      cond_either ChangesBy (is_some (names.entry_at n dir name)) (Err Exists) (names.add_new n dir name directory) (λ q. tt)
      (λ q. cond_either ChangesBy (nat_lt (names.live_inodes n) n.limit) (Ok (names.added n dir name directory)) (Err TooMany)
      (λ r. added_changes dir name directory b (name_short name (place_name dir name e))) (λ r. tt))

  pub create_changes : (dir : ℕ) (name : List ℕ) → n.next < 2 ^ 32 - 1 → ChangesBy (names.create n dir name)
  unfolding names.create names.add
  create_changes dir name b = add_at_changes dir name false (names.place_refusal n dir name) b refl

  pub mkdir_changes : (dir : ℕ) (name : List ℕ) → n.next < 2 ^ 32 - 1 → ChangesBy (names.mkdir n dir name)
  unfolding names.mkdir names.add
  mkdir_changes dir name b = add_at_changes dir name true (names.place_refusal n dir name) b refl

  found_changes : (dir : ℕ) (name : List ℕ) (o : Option NameEntry) → ((e : NameEntry) → o ≡ Some e → is_good_entry e ≡ true) → ChangesBy (names.remove_found n dir name o)
  unfolding names.remove_found names.remove_entry names.without
  found_changes dir name None good = tt
  found_changes dir name (Some e) good =
      cond_either ChangesBy (names.is_full n e) (Err NotEmpty) (Ok (names.without n dir name e)) (λ q. tt)
      (λ q. record {
        named = record { entries = every_filter is_good_entry (λ d. not (names.is_entry_at dir name d)) n.entries h.entries; next = h.next };
        ino = entry_ino e (good e refl);
      })

  remove_at_changes : (dir : ℕ) (name : List ℕ) (o : Option EntryRefusal) → ChangesBy (names.remove_at n dir name o)
  unfolding names.remove_at
  remove_at_changes dir name (Some r) = tt
  remove_at_changes dir name None = found_changes dir name (names.entry_at n dir name) (λ e q. every_found is_good_entry (names.is_entry_at dir name) n.entries e h.entries q)

  pub remove_changes : (dir : ℕ) (name : List ℕ) → ChangesBy (names.remove n dir name)
  unfolding names.remove
  remove_changes dir name = remove_at_changes dir name (names.place_refusal n dir name)

  moved_good : (dir : ℕ) (name : List ℕ) (dir2 : ℕ) (name2 : List ℕ) → has_length 1 64 name2 ≡ true → (e : NameEntry) → is_good_entry e ≡ true →
      is_good_entry (names.move_entry dir name dir2 name2 e) ≡ true
  unfolding names.moved
  moved_good dir name dir2 name2 s e g =
      cond_either (λ (x : NameEntry). is_good_entry x ≡ true) (names.is_entry_at dir name e) (names.moved dir2 name2 e) e
      (λ q. and_from (is_ino e.ino) (has_length 1 64 name2) (entry_ino e g) s) (λ q. g)

  rename_found_changes : (dir : ℕ) (name : List ℕ) (dir2 : ℕ) (name2 : List ℕ) (o : Option NameEntry) → has_length 1 64 name2 ≡ true →
      ((e : NameEntry) → o ≡ Some e → is_good_entry e ≡ true) → ChangesBy (names.rename_found n dir name dir2 name2 o)
  unfolding names.rename_found names.rename_entry names.rename_free names.renamed
  rename_found_changes dir name dir2 name2 None s good = tt
  rename_found_changes dir name dir2 name2 (Some e) s good =
      cond_either ChangesBy (is_some (names.entry_at n dir2 name2)) (Err Exists) (names.rename_free n dir name dir2 name2 e) (λ q. tt)
      (λ q. cond_either ChangesBy (names.comes_under_itself n dir2 e) (Err Cycle) (Ok (names.renamed n dir name dir2 name2 e)) (λ r. tt)
      (λ r. record {
        named = record { entries = every_map is_good_entry is_good_entry (names.move_entry dir name dir2 name2) (moved_good dir name dir2 name2 s) n.entries h.entries; next = h.next };
        ino = entry_ino e (good e refl);
      }))

  rename_at_changes : (dir : ℕ) (name : List ℕ) (dir2 : ℕ) (name2 : List ℕ) (o : Option EntryRefusal) → (o ≡ None → has_length 1 64 name2 ≡ true) →
      ChangesBy (names.rename_at n dir name dir2 name2 o)
  unfolding names.rename_at
  rename_at_changes dir name dir2 name2 (Some r) s = tt
  rename_at_changes dir name dir2 name2 None s =
      rename_found_changes dir name dir2 name2 (names.entry_at n dir name) (s refl)
      (λ e q. every_found is_good_entry (names.is_entry_at dir name) n.entries e h.entries q)

  second_none : (a b : Option EntryRefusal) → option_or a b ≡ None → b ≡ None
  second_none None b e = e
  second_none (Some r) b e = cc

  pub rename_changes : (dir : ℕ) (name : List ℕ) (dir2 : ℕ) (name2 : List ℕ) → ChangesBy (names.rename n dir name dir2 name2)
  unfolding names.rename
  rename_changes dir name dir2 name2 =
      rename_at_changes dir name dir2 name2 (option_or (names.place_refusal n dir name) (names.place_refusal n dir2 name2))
      (λ e. name_short name2 (place_name dir2 name2 (second_none (names.place_refusal n dir name) (names.place_refusal n dir2 name2) e)))

-- Listing.
rows_fit : (rs : List NameRow) → list_all (is_name_row 1) rs ≡ true → are_rows is_name_row after_name 1 rs ≡ true
rows_fit [] e = refl
rows_fit (r ∷ rs) e = let p = and_parts (is_name_row 1 r) (list_all (is_name_row 1) rs) e in and_from (is_name_row 1 r) _ p.0 (rows_fit rs p.1)

every_take : (m : ℕ) (rs : List NameRow) → list_all (is_name_row 1) rs ≡ true → list_all (is_name_row 1) (take m rs) ≡ true
every_take zero rs e = refl
every_take (suc m) [] e = refl
every_take (suc m) (r ∷ rs) e = let p = and_parts (is_name_row 1 r) (list_all (is_name_row 1) rs) e in and_from (is_name_row 1 r) _ p.0 (every_take m rs p.1)

take_few : (m : ℕ) (rs : List NameRow) → length (take m rs) ≤ m
take_few zero rs = omega arith
take_few (suc m) [] = omega arith
take_few (suc m) (r ∷ rs) = let p : length (take m rs) ≤ m = take_few m rs in omega (arith, p)

with_row_good : (r : NameRow) (rs : List NameRow) → is_name_row 1 r ≡ true → list_all (is_name_row 1) rs ≡ true → list_all (is_name_row 1) (names.with_name_row r rs) ≡ true
unfolding names.with_name_row names.row_placed
with_row_good r [] e h = and_from (is_name_row 1 r) true e refl
with_row_good r (x ∷ xs) e h =
    let p = and_parts (is_name_row 1 x) (list_all (is_name_row 1) xs) h in
    cond_either (λ (rs : List NameRow). list_all (is_name_row 1) rs ≡ true) (names.name_below r.name x.name) (r ∷ (x ∷ xs)) (x ∷ names.with_name_row r xs)
    (λ q. and_from (is_name_row 1 r) _ e h)
    (λ q. and_from (is_name_row 1 x) _ p.0 (with_row_good r xs e p.1))

by_name_good : (rs : List NameRow) → list_all (is_name_row 1) rs ≡ true → list_all (is_name_row 1) (names.by_name rs) ≡ true
unfolding names.by_name
by_name_good [] e = refl
by_name_good (r ∷ rs) e =
    let p = and_parts (is_name_row 1 r) (list_all (is_name_row 1) rs) e in with_row_good r (names.by_name rs) p.0 (by_name_good rs p.1)

abbrev pub Lists : Result (List NameRow) EntryRefusal → Type 0
Lists (Ok rows) = is_reply (bodies.Named (Listed rows)) ≡ true
Lists (Err r) = Unit {0}

listed_fits : (rs : List NameRow) → list_all (is_name_row 1) rs ≡ true → is_reply (bodies.Named (Listed (take 256 rs))) ≡ true
unfolding is_body is_name_reply are_names
listed_fits rs e =
    and_from (between 0 256 (length (take 256 rs))) _
    (and_from (nat_le 0 (length (take 256 rs))) _ (le-leb 0 (length (take 256 rs)) (omega arith)) (le-leb (length (take 256 rs)) 256 (take_few 256 rs)))
    (rows_fit (take 256 rs) (every_take 256 rs e))

list_at_fits : (n : Names) (dir : ℕ) (after : List ℕ) (o : Option EntryRefusal) → AreNamed n → Lists (names.list_at n dir after o)
unfolding names.list_at
list_at_fits n dir after (Some r) h = tt
list_at_fits n dir after None h =
    listed_fits (names.by_name (map names.name_row (filter (names.is_listed dir after) n.entries)))
    (by_name_good (map names.name_row (filter (names.is_listed dir after) n.entries))
    (every_map is_good_entry (is_name_row 1) names.name_row (λ e g. g) (filter (names.is_listed dir after) n.entries)
    (every_filter is_good_entry (names.is_listed dir after) n.entries h.entries)))

pub lists : (n : Names) (dir : ℕ) (after : List ℕ) → AreNamed n → Lists (names.list n dir after)
unfolding names.list
lists n dir after h = list_at_fits n dir after (names.dir_refusal n dir) h
