-- A change that is applied leaves the stable part as it was if its mark stays the same.
use Rattle.st_lemmas.proofs.Words
use Words.{◌≡◌, ℕ, ◌+◌, ◌^◌, ◌<◌, ◌≤◌, Bool, true, false, ◌==◌, not, cond, List, [], ◌∷◌, length, Option, Some, None, refl, sym, ap, subst, ◌∙◌, arith, ◌&&◌}
use Words.{bytes_eq, find, filter, map, is_some, nat_lt, nat_le, Result, Ok, Err, and_parts, eqb-true, leb-true, BlockAt, FileId, PageNo, AllocateRefusal}
use Words.{Extent, NameEntry, EntryRefusal}
use Words.wants as space
use Words.Extents as extents
use Words.Extents.{Extents}
use Words.Keys.{page_no}
use Words.Names as names
use Words.Names.{Names, Changed}
use Words.Server.{Stable}
use Words.Tables.{cond_either, find_gone}
use Words.Tests.{filtered_no_longer}
use Rattle.std.specs.Option.{option_or}
use Rattle.std.proofs.lemmas.Slice.Eq.{bytes_eq-Decides}
use Rattle.st_journal.specs.Stable as journal
use Rattle.st_journal.specs.declared.change.Change.{Change}
use Rattle.st_journal.specs.declared.change.Change.TheVariants as changes
use Rattle.st_journal.specs.declared.stable.ChangeRefusal.{ChangeRefusal}
use Rattle.st_journal.specs.declared.stable.ChangeRefusal.TheVariants.{NoFile}
use Rattle.st_rules.specs.declared.names.EntryRefusal.TheVariants.{Exists, TooMany, NotEmpty, Cycle}
use Rattle.st_durable.specs.Durable.{mark, found_mark}

-- Extents: births rise with each page that is mapped.
placed_rise : (x : Extents) (f : FileId) (p : PageNo) (bs : List BlockAt) → x.births ≤ (extents.place_on x f p bs).births
unfolding extents.place_on
placed_rise x f p [] = omega arith
placed_rise x f p (b ∷ bs) = omega arith

births_rise : (f : FileId) (ps : List PageNo) (x : Extents) → x.births ≤ (extents.place_pages f ps x).births
unfolding extents.place_pages
births_rise f [] x = omega arith
births_rise f (p ∷ ps) x =
    let first : x.births ≤ (extents.place_on x f p (extents.free_blocks x)).births = placed_rise x f p (extents.free_blocks x) in
    let rest : (extents.place_on x f p (extents.free_blocks x)).births ≤ (extents.place_pages f ps (extents.place_on x f p (extents.free_blocks x))).births
    = births_rise f ps (extents.place_on x f p (extents.free_blocks x)) in
    omega (arith, first, rest)

-- one page more, and one birth more
placed_more : (x : Extents) (f : FileId) (p : PageNo) (bs : List BlockAt) → 1 ≤ length bs → (extents.place_on x f p bs).births ≡ x.births + 1
unfolding extents.place_on
placed_more x f p [] e = absurd (omega (arith, e))
placed_more x f p (b ∷ bs) e = refl

same_births : (f : FileId) (ps : List PageNo) (x : Extents) → length ps ≤ extents.free x → (extents.place_pages f ps x).births ≡ x.births → extents.place_pages f ps x ≡ x
unfolding extents.place_pages
same_births f [] x b e = refl
same_births f (p ∷ ps) x b e =
    let more : (extents.place_on x f p (extents.free_blocks x)).births ≡ x.births + 1 = placed_more x f p (extents.free_blocks x) (omega (arith, b)) in
    let rest : (extents.place_on x f p (extents.free_blocks x)).births ≤ (extents.place_pages f ps (extents.place_on x f p (extents.free_blocks x))).births
    = births_rise f ps (extents.place_on x f p (extents.free_blocks x)) in
    absurd (omega (arith, e, more, rest))

placed_server : (x : Extents) (f : FileId) (p : PageNo) (bs : List BlockAt) → (extents.place_on x f p bs).server ≡ x.server
unfolding extents.place_on
placed_server x f p [] = refl
placed_server x f p (b ∷ bs) = refl

same_server : (f : FileId) (ps : List PageNo) (x : Extents) → (extents.place_pages f ps x).server ≡ x.server
unfolding extents.place_pages
same_server f [] x = refl
same_server f (p ∷ ps) x = same_server f ps (extents.place_on x f p (extents.free_blocks x)) ∙ placed_server x f p (extents.free_blocks x)

-- Lists: a filter that takes nothing out.

all_kept : {X : Type 0} (p : X → Bool) (xs : List X) → length (filter p xs) ≡ length xs → filter p xs ≡ xs
all_kept p [] e = refl
all_kept {X} p (x ∷ xs) e =
    cond_either (λ (ys : List X). length ys ≡ length (x ∷ xs) → ys ≡ x ∷ xs) (p x) (x ∷ filter p xs) (filter p xs)
    (λ q l. ap (λ (ys : List X). x ∷ ys) (all_kept p xs (omega (arith, l)))) (λ q l. absurd (omega (arith, l, filtered_no_longer p xs))) e

none_mapped : {X : Type 0} (p : X → Bool) (f : X → X) → ((x : X) → p (f x) ≡ false) → (xs : List X) → find p (map f xs) ≡ None
none_mapped p f h [] = refl
none_mapped p f h (x ∷ xs) = ap (λ (b : Bool). cond b (Some (f x)) (find p (map f xs))) (h x) ∙ none_mapped p f h xs

-- Names.
module _ (n : Names) where
  -- an entry is added under the next inode number
  abbrev Adds : Result Changed EntryRefusal → Type 0
  Adds (Ok d) = d.names.next ≡ n.next + 1
  Adds (Err r) = Unit {0}

  at_adds : (dir : ℕ) (name : List ℕ) (directory : Bool) (o : Option EntryRefusal) → Adds (names.add_at n dir name directory o)
  unfolding names.add_at names.add_beside names.add_new names.added
  at_adds dir name directory (Some r) = tt
  at_adds dir name directory None =
      cond_either Adds (is_some (names.entry_at n dir name)) (Err Exists) (names.add_new n dir name directory) (λ q. tt)
      (λ q. cond_either Adds (nat_lt (names.live_inodes n) n.limit) (Ok (names.added n dir name directory)) (Err TooMany) (λ r. refl) (λ r. tt))

  create_adds : (dir : ℕ) (name : List ℕ) → Adds (names.create n dir name)
  unfolding names.create names.add
  create_adds dir name = at_adds dir name false (names.place_refusal n dir name)

  mkdir_adds : (dir : ℕ) (name : List ℕ) → Adds (names.mkdir n dir name)
  unfolding names.mkdir names.add
  mkdir_adds dir name = at_adds dir name true (names.place_refusal n dir name)

-- a name that has an entry is found
there : (n : Names) (dir : ℕ) (name : List ℕ) (e : NameEntry) → names.place_refusal n dir name ≡ None → names.entry_at n dir name ≡ Some e → found_mark (names.lookup n dir name) ≡ 1
unfolding names.lookup names.lookup_at
there n dir name e p q = ap (λ (o : Option EntryRefusal). found_mark (names.lookup_at n dir name o)) p ∙ ap (λ (o : Option NameEntry). found_mark (names.ino_of o)) q

-- a name that has none is not
missing : (n : Names) (dir : ℕ) (name : List ℕ) → names.entry_at n dir name ≡ None → found_mark (names.lookup n dir name) ≡ 0
unfolding names.lookup names.lookup_at
missing n dir name q = go (names.place_refusal n dir name)
  where
    go : (o : Option EntryRefusal) → found_mark (names.lookup_at n dir name o) ≡ 0
    go (Some r) = refl
    go None = ap (λ (o : Option NameEntry). found_mark (names.ino_of o)) q

module _ (n : Names) (dir : ℕ) (name : List ℕ) where
  -- the name was found, and no longer is
  abbrev Goes : Result Changed EntryRefusal → Type 0
  Goes (Ok d) = (found_mark (names.lookup n dir name) ≡ 1) × (found_mark (names.lookup d.names dir name) ≡ 0)
  Goes (Err r) = Unit {0}

  entry_goes : (e : NameEntry) → names.place_refusal n dir name ≡ None → names.entry_at n dir name ≡ Some e → Goes (names.remove_entry n dir name e)
  unfolding names.remove_entry names.without
  entry_goes e p q =
      cond_either Goes (names.is_full n e) (Err NotEmpty) (Ok (names.without n dir name e)) (λ r. tt)
      (λ r. (
        there n dir name e p q,
        missing (names.without n dir name e).names dir name (find_gone (names.is_entry_at dir name) (λ d. not (names.is_entry_at dir name d)) (λ x f. ap not f) n.entries),
      ))

  remove_goes : Goes (names.remove n dir name)
  unfolding names.remove names.remove_at names.remove_found
  remove_goes = at (names.place_refusal n dir name) refl
    where
      found : names.place_refusal n dir name ≡ None → (o : Option NameEntry) → names.entry_at n dir name ≡ o → Goes (names.remove_found n dir name o)
      found p None q = tt
      found p (Some e) q = entry_goes e p q

      at : (o : Option EntryRefusal) → names.place_refusal n dir name ≡ o → Goes (names.remove_at n dir name o)
      at (Some r) p = tt
      at None p = found p (names.entry_at n dir name) refl

  module _ (dir2 : ℕ) (name2 : List ℕ) where
    -- the new name differs from the old one
    is_other : (e : NameEntry) → names.entry_at n dir name ≡ Some e → is_some (names.entry_at n dir2 name2) ≡ false → ((dir2 == dir) && bytes_eq name2 name) ≡ false
    is_other e q free = go ((dir2 == dir) && bytes_eq name2 name) refl
      where
        go : (b : Bool) → ((dir2 == dir) && bytes_eq name2 name) ≡ b → b ≡ false
        go false h = refl
        go true h =
            let p = and_parts (dir2 == dir) (bytes_eq name2 name) h in
            let same_dir : dir2 ≡ dir = eqb-true dir2 dir p.0 in
            let same_name : name2 ≡ name = (bytes_eq-Decides name2 name).0 p.1 in
            let there : names.entry_at n dir2 name2 ≡ Some e = (λ i. names.entry_at n (same_dir i) (same_name i)) ∙ q in
            sym (ap is_some there) ∙ free

    moved_away : ((dir2 == dir) && bytes_eq name2 name) ≡ false → (e : NameEntry) → names.is_entry_at dir name (names.move_entry dir name dir2 name2 e) ≡ false
    unfolding names.moved
    moved_away other e =
        cond_either (λ (x : NameEntry). names.is_entry_at dir name x ≡ false) (names.is_entry_at dir name e) (names.moved dir2 name2 e) e (λ q. other) (λ q. q)

    rename_free_goes : (e : NameEntry) → names.place_refusal n dir name ≡ None → names.entry_at n dir name ≡ Some e → is_some (names.entry_at n dir2 name2) ≡ false →
        Goes (names.rename_free n dir name dir2 name2 e)
    unfolding names.rename_free names.renamed
    rename_free_goes e p q free =
        cond_either Goes (names.comes_under_itself n dir2 e) (Err Cycle) (Ok (names.renamed n dir name dir2 name2 e)) (λ r. tt)
        (λ r. (
          there n dir name e p q,
          missing (names.renamed n dir name dir2 name2 e).names dir name
              (none_mapped (names.is_entry_at dir name) (names.move_entry dir name dir2 name2) (moved_away (is_other e q free)) n.entries),
        ))

    rename_goes : Goes (names.rename n dir name dir2 name2)
    unfolding names.rename names.rename_at names.rename_found names.rename_entry
    rename_goes = at (option_or (names.place_refusal n dir name) (names.place_refusal n dir2 name2)) refl
      where
        first_none : (a b : Option EntryRefusal) → option_or a b ≡ None → a ≡ None
        first_none None b e = refl
        first_none (Some r) b e = cc

        found : names.place_refusal n dir name ≡ None → (o : Option NameEntry) → names.entry_at n dir name ≡ o → Goes (names.rename_found n dir name dir2 name2 o)
        found p None q = tt
        found p (Some e) q =
            cond_either Goes (is_some (names.entry_at n dir2 name2)) (Err Exists) (names.rename_free n dir name dir2 name2 e) (λ r. tt) (λ r. rename_free_goes e p q r)

        at : (o : Option EntryRefusal) → option_or (names.place_refusal n dir name) (names.place_refusal n dir2 name2) ≡ o → Goes (names.rename_at n dir name dir2 name2 o)
        at (Some r) p = tt
        at None p = found (first_none (names.place_refusal n dir name) (names.place_refusal n dir2 name2) p) (names.entry_at n dir name) refl

-- What a change makes of a stable part: it is as it was if the mark stays the same, and of the same server.
pub record MarksTell (t u : Stable) (x : Change) : Type 0 where
  pub same : mark u x ≡ mark t x → u ≡ t
  pub server : u.extents.server ≡ t.extents.server

module _ (t : Stable) where
  abbrev Told : Change → Result Stable ChangeRefusal → Type 0
  Told x (Ok u) = MarksTell t u x
  Told x (Err r) = Unit {0}

  -- Pages.
  allocated : (ino : ℕ) (page : PageNo) (count : ℕ) (ps : List PageNo) (f : FileId) → Told (changes.Allocate ino page count) (journal.mapped t (extents.allocate_pages t.extents f ps))
  unfolding extents.allocate_pages
  allocated ino page count ps f =
      cond_either (λ (r : Result Extents AllocateRefusal). Told (changes.Allocate ino page count) (journal.mapped t r)) (nat_le (length ps) (extents.free t.extents))
      (Ok (extents.place_pages f ps t.extents)) (Err (space.NoSpace (extents.free t.extents) (length ps)))
      (λ q. record {
        same = λ m. ap (λ (x : Extents). record t { extents = x }) (same_births f ps t.extents (leb-true (length ps) (extents.free t.extents) q) (omega (arith, m)));
        server = same_server f ps t.extents;
      })
      (λ q. tt)

  was_cut : (ino : ℕ) (from : PageNo) → MarksTell t (journal.released t ino from) (changes.Cut ino from)
  unfolding extents.release_from
  was_cut ino from =
      record {
        same = λ m. ap (λ (rows : List Extent). record t { extents = record t.extents { rows = rows } })
            (all_kept (λ (e : Extent). not (extents.is_at_or_behind (journal.file t ino) from e)) t.extents.rows m);
        server = refl;
      }

  -- Names.
  created : (dir : ℕ) (name : List ℕ) (r : Result Changed EntryRefusal) → Adds t.names r → Told (changes.Create dir name) (journal.named t r)
  unfolding journal.named
  created dir name (Ok d) k = record { same = λ m. absurd (omega (arith, m, k)); server = refl }
  created dir name (Err r) k = tt

  made : (dir : ℕ) (name : List ℕ) (r : Result Changed EntryRefusal) → Adds t.names r → Told (changes.Mkdir dir name) (journal.named t r)
  unfolding journal.named
  made dir name (Ok d) k = record { same = λ m. absurd (omega (arith, m, k)); server = refl }
  made dir name (Err r) k = tt

  renamed : (dir : ℕ) (name : List ℕ) (dir2 : ℕ) (name2 : List ℕ) (r : Result Changed EntryRefusal) → Goes t.names dir name r → Told (changes.Rename dir name dir2 name2) (journal.named t r)
  unfolding journal.named
  renamed dir name dir2 name2 (Ok d) k = record { same = λ m. absurd (omega (arith, m, k.0, k.1)); server = refl }
  renamed dir name dir2 name2 (Err r) k = tt

  -- the names and the server of what is left after an entry is removed
  without_names : (d : Changed) → (journal.without t d).names ≡ d.names
  unfolding extents.release_from
  without_names d =
      cond_either (λ (u : Stable). u.names ≡ d.names) (names.is_file t.names d.ino) (journal.released (journal.with_names t d.names) d.ino (page_no 0)) (journal.with_names t d.names) (λ q. refl) (λ q. refl)

  without_server : (d : Changed) → (journal.without t d).extents.server ≡ t.extents.server
  unfolding extents.release_from
  without_server d =
      cond_either (λ (u : Stable). u.extents.server ≡ t.extents.server) (names.is_file t.names d.ino) (journal.released (journal.with_names t d.names) d.ino (page_no 0)) (journal.with_names t d.names) (λ q. refl) (λ q. refl)

  removed : (dir : ℕ) (name : List ℕ) (r : Result Changed EntryRefusal) → Goes t.names dir name r → Told (changes.Remove dir name) (journal.removed t r)
  unfolding journal.removed
  removed dir name (Ok d) k =
      let now : found_mark (names.lookup (journal.without t d).names dir name) ≡ 0 = ap (λ (n : Names). found_mark (names.lookup n dir name)) (without_names d) ∙ k.1 in
      record { same = λ m. absurd (omega (arith, m, k.0, now)); server = without_server d }
  removed dir name (Err r) k = tt

  told : (x : Change) → Told x (journal.apply t x)
  unfolding journal.apply journal.allocate journal.cut extents.allocate
  told changes.Epoch = record { same = λ m. absurd (omega (arith, m)); server = refl }
  told (changes.Allocate ino page count) =
      cond_either (Told (changes.Allocate ino page count)) (names.is_file t.names ino) (journal.mapped t (extents.allocate t.extents (journal.file t ino) page count)) (Err (NoFile ino))
      (λ q. allocated ino page count (extents.unmapped t.extents (journal.file t ino) page count) (journal.file t ino)) (λ q. tt)
  told (changes.Cut ino from) =
      cond_either (Told (changes.Cut ino from)) (names.is_file t.names ino) (Ok (journal.released t ino from)) (Err (NoFile ino)) (λ q. was_cut ino from) (λ q. tt)
  told (changes.Create dir n) = created dir n (names.create t.names dir n) (create_adds t.names dir n)
  told (changes.Mkdir dir n) = made dir n (names.mkdir t.names dir n) (mkdir_adds t.names dir n)
  told (changes.Remove dir n) = removed dir n (names.remove t.names dir n) (remove_goes t.names dir n)
  told (changes.Rename dir n dir2 n2) = renamed dir n dir2 n2 (names.rename t.names dir n dir2 n2) (rename_goes t.names dir n dir2 n2)

  pub marks_tell : (u : Stable) (x : Change) → journal.apply t x ≡ Ok u → MarksTell t u x
  marks_tell u x e = subst (Told x) e (told x)
