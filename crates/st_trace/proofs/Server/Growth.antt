-- A step of a server lets its stable part grow little: at most one inode number more, and a birth for each page that was asked for.
use Rattle.st_lemmas.proofs.Words
use Words.{◌≡◌, ℕ, ◌+◌, ◌≤◌, Bool, true, false, List, [], ◌∷◌, length, refl, sym, ◌∙◌, subst, arith, leb-true, if◌then◌else◌, Result, Ok, Err}
use Words.{not, nat_le, nat_lt, is_some, Option, Some, None, length-map, BlockAt, FileId, PageNo, Stamp, Body, Header, AllocateRefusal}
use Words.{ServerInput, EntryRefusal, NameEntry}
use Words.wants.{NoSpace}
use Words.Extents as extents
use Words.Extents.{Extents, numbers}
use Words.Keys.{page_no}
use Words.Names as names
use Words.Names.{Changed, Names}
use Words.Server as sv
use Words.Server.{ServerState, Stable, ServerTurn}
use Words.Lengths.{numbers_length}
use Words.Tests.{filtered_no_longer}
use Words.Truth.{if_either}
use Rattle.st_rules.specs.declared.names.EntryRefusal.TheVariants.{Cycle, Exists, NotEmpty, TooMany}
use Rattle.st_trace.specs.Server.Changing.{StableChange, Stays, Changes}
use Rattle.st_trace.specs.Server.Edits.{Ruled, Tells, Acquires, Releases, Allocates, Cuts, Creates, MakesDir, Renames, RemovesDir, RemovesFile}
use Rattle.st_trace.specs.Server.Growth.{GrowsLittle, pages_asked, pages_in}
use Rattle.st_trace.proofs.Server.StableParts.{step_stable}

-- Names: at most one inode number more.
abbrev OneMore : Names → Result Changed EntryRefusal → Type 0
OneMore n (Ok d) = d.names.next ≤ n.next + 1
OneMore n (Err r) = Unit {0}

added_one_more : (n : Names) (dir : ℕ) (name : List ℕ) (d : Bool) (o : Option EntryRefusal) → OneMore n (names.add_at n dir name d o)
unfolding names.add_at names.add_beside names.add_new names.added
added_one_more n dir name d (Some r) = tt
added_one_more n dir name d None =
    let low : n.next + 1 ≤ n.next + 1 = omega arith in
    let room = if_either (OneMore n) (nat_lt (names.live_inodes n) n.limit) (Ok (names.added n dir name d)) (Err TooMany) low tt in
    if_either (OneMore n) (is_some (names.entry_at n dir name)) (Err Exists) (names.add_new n dir name d) tt room

removed_found_one_more : (n : Names) (dir : ℕ) (name : List ℕ) (o : Option NameEntry) → OneMore n (names.remove_found n dir name o)
unfolding names.remove_found names.remove_entry names.without
removed_found_one_more n dir name None = tt
removed_found_one_more n dir name (Some e) =
    let low : n.next ≤ n.next + 1 = omega arith in
    if_either (OneMore n) (names.is_full n e) (Err NotEmpty) (Ok (names.without n dir name e)) tt low

removed_at_one_more : (n : Names) (dir : ℕ) (name : List ℕ) (o : Option EntryRefusal) → OneMore n (names.remove_at n dir name o)
unfolding names.remove_at
removed_at_one_more n dir name (Some r) = tt
removed_at_one_more n dir name None = removed_found_one_more n dir name (names.entry_at n dir name)

removed_one_more : (n : Names) (dir : ℕ) (name : List ℕ) → OneMore n (names.remove n dir name)
unfolding names.remove
removed_one_more n dir name = removed_at_one_more n dir name (names.place_refusal n dir name)

renamed_found_one_more : (n : Names) (dir : ℕ) (name : List ℕ) (dir2 : ℕ) (name2 : List ℕ) (o : Option NameEntry) →
    OneMore n (names.rename_found n dir name dir2 name2 o)
unfolding names.rename_found names.rename_entry names.rename_free names.renamed
renamed_found_one_more n dir name dir2 name2 None = tt
renamed_found_one_more n dir name dir2 name2 (Some e) =
    let low : n.next ≤ n.next + 1 = omega arith in
    let free = if_either (OneMore n) (names.comes_under_itself n dir2 e) (Err Cycle) (Ok (names.renamed n dir name dir2 name2 e)) tt low in
    if_either (OneMore n) (is_some (names.entry_at n dir2 name2)) (Err Exists) (names.rename_free n dir name dir2 name2 e) tt free

renamed_at_one_more : (n : Names) (dir : ℕ) (name : List ℕ) (dir2 : ℕ) (name2 : List ℕ) (o : Option EntryRefusal) →
    OneMore n (names.rename_at n dir name dir2 name2 o)
unfolding names.rename_at
renamed_at_one_more n dir name dir2 name2 (Some r) = tt
renamed_at_one_more n dir name dir2 name2 None = renamed_found_one_more n dir name dir2 name2 (names.entry_at n dir name)

-- Extents: a birth for each page that is placed, and the blocks stay.
place_births : (f : FileId) (p : PageNo) (bs : List BlockAt) (x : Extents) → (extents.place_on x f p bs).births ≤ x.births + 1
unfolding extents.place_on
place_births f p [] x = omega arith
place_births f p (b ∷ bs) x = omega arith

pages_births : (f : FileId) (ps : List PageNo) (x : Extents) → (extents.place_pages f ps x).births ≤ x.births + length ps
unfolding extents.place_pages
pages_births f [] x = omega arith
pages_births f (p ∷ ps) x =
    let a = pages_births f ps (extents.place_on x f p (extents.free_blocks x)) in
    let b = place_births f p (extents.free_blocks x) x in
    omega (arith, a, b)

place_blocks : (f : FileId) (p : PageNo) (bs : List BlockAt) (x : Extents) → extents.own_blocks (extents.place_on x f p bs) ≡ extents.own_blocks x
unfolding extents.place_on extents.own_blocks
place_blocks f p [] x = refl
place_blocks f p (b ∷ bs) x = refl

pages_blocks : (f : FileId) (ps : List PageNo) (x : Extents) → extents.own_blocks (extents.place_pages f ps x) ≡ extents.own_blocks x
unfolding extents.place_pages
pages_blocks f [] x = refl
pages_blocks f (p ∷ ps) x = pages_blocks f ps (extents.place_on x f p (extents.free_blocks x)) ∙ place_blocks f p (extents.free_blocks x) x

release_blocks : (f : FileId) (p : PageNo) (x : Extents) → extents.own_blocks (extents.release_from x f p) ≡ extents.own_blocks x
unfolding extents.release_from extents.own_blocks
release_blocks f p x = refl

record Places (asked : ℕ) (x y : Extents) : Type 0 where
  births : y.births ≤ x.births + asked
  placed : y.births ≤ x.births + length (extents.own_blocks x)
  blocks : extents.own_blocks y ≡ extents.own_blocks x

abbrev MayPlace : ℕ → Extents → Result Extents AllocateRefusal → Type 0
MayPlace asked x (Ok y) = Places asked x y
MayPlace asked x (Err r) = Unit {0}

allocate_places : (x : Extents) (f : FileId) (p : PageNo) (count : ℕ) → MayPlace count x (extents.allocate x f p count)
unfolding extents.allocate extents.allocate_pages extents.free_blocks
allocate_places x f p count = go (nat_le (length ps) (extents.free x)) refl
  where
    ps : List PageNo
    ps = extents.unmapped x f p count

    go : (b : Bool) → nat_le (length ps) (extents.free x) ≡ b →
        MayPlace count x (if b then Ok (extents.place_pages f ps x) else Err (NoSpace (extents.free x) (length ps)))
    go false e = tt
    go true e =
        let a = pages_births f ps x in
        let b = filtered_no_longer (λ q. not (extents.is_mapped x f q)) (extents.pages_from p count) in
        let c = length-map (numbers p.0 count) page_no in
        let d = numbers_length p.0 count in
        let l = leb-true (length ps) (extents.free x) e in
        let m = filtered_no_longer (extents.is_free x) (extents.own_blocks x) in
        record { births = omega (arith, a, b, c, d); placed = omega (arith, a, l, m); blocks = pages_blocks f ps x }

-- What the rule of a request leaves.
stays : (asked : ℕ) (s : Stable) → GrowsLittle asked s s
stays asked s = record { epoch = refl; inodes = omega arith; births = omega arith; placed = omega arith; blocks = refl }

names_grow : (t : ServerTurn) (d : Changed) (r : Result Changed EntryRefusal) → r ≡ Ok d → OneMore t.state.stable.names r →
    GrowsLittle 0 t.state.stable (sv.with_names d.names t).state.stable
names_grow t d r e f =
    record { epoch = refl; inodes = subst (OneMore t.state.stable.names) e f; births = omega arith; placed = omega arith; blocks = refl }

rule_grows : (now : Stamp) (t : ServerTurn) (h : Header) (b : Body) (u : ServerTurn) (r : Body) → Ruled now t h b u r →
    GrowsLittle (pages_asked b) t.state.stable u.state.stable
unfolding names.create names.mkdir names.add names.rename sv.cut_whole sv.cut_pages extents.release_from
rule_grows now t h b u r (Tells _ _ x) = stays (pages_asked b) t.state.stable
rule_grows now t h b u r (Acquires ino mode a f k g) = stays 0 t.state.stable
rule_grows now t h b u r (Releases ino g to x e f) = stays 0 t.state.stable
rule_grows now t h b u r (Allocates ino g p count x f q e) =
    let y = subst (MayPlace count t.state.stable.extents) e (allocate_places t.state.stable.extents (sv.file t ino) p count) in
    record { epoch = refl; inodes = omega arith; births = y.births; placed = y.placed; blocks = y.blocks }
rule_grows now t h b u r (Cuts ino g p f q) =
    record { epoch = refl; inodes = omega arith; births = omega arith; placed = omega arith; blocks = release_blocks _ _ t.state.stable.extents }
rule_grows now t h b u r (Creates dir x d e) = names_grow t d _ e (added_one_more t.state.stable.names dir x false _)
rule_grows now t h b u r (MakesDir dir x d e) = names_grow t d _ e (added_one_more t.state.stable.names dir x true _)
rule_grows now t h b u r (Renames dir x dir2 x2 d e) = names_grow t d _ e (renamed_at_one_more t.state.stable.names dir x dir2 x2 _)
rule_grows now t h b u r (RemovesDir dir x g ino d l f z e s) = names_grow t d _ e (removed_one_more t.state.stable.names dir x)
rule_grows now t h b u r (RemovesFile dir x g ino d l f q e s) =
    record {
      epoch = refl;
      inodes = subst (OneMore t.state.stable.names) e (removed_one_more t.state.stable.names dir x);
      births = omega arith;
      placed = omega arith;
      blocks = release_blocks _ _ t.state.stable.extents;
    }

-- what a step leaves of the stable part
pub step_grows : (n : ServerState) (now : Stamp) (i : ServerInput) → GrowsLittle (pages_in i) n.stable (sv.server_step n now i).state.stable
step_grows n now i = go _ (step_stable n now i)
  where
    go : (x : Stable) → StableChange n now i x → GrowsLittle (pages_in i) n.stable x
    go x Stays = stays (pages_in i) n.stable
    go x (Changes by t u b v r) =
        let c = v.asked.heard.came in
        subst (λ j. GrowsLittle (pages_in j) n.stable u.state.stable) (sym c.is)
        (subst (λ (y : Stable). GrowsLittle (pages_asked by.body) y u.state.stable) c.begun.stable (rule_grows now t by.header by.body u b r))
