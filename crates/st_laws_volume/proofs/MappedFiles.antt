-- Each page that a server has mapped belongs to a file that it has: after every event of every run.
use Rattle.st_lemmas.proofs.Words
use Words.{◌≡◌, ◌⊎◌, ℕ, ◌+◌, arith, Bool, true, false, not, ◌&&◌, ◌==◌, List, [], ◌∷◌, ◌++◌, map, Option, Some, None, Ok, Err, Result, refl, sym, ap, ◌∙◌, subst, inl, inr, if◌then◌else◌}
use Words.{bytes_eq, eq-eqb, eqb-true, filter, le-leb, is_some, nat_le, nat_lt, option_map, unwrap_or, BlockAt, ClientId, FileId, PageNo, ServerId, Stamp, Ask, Body, Event}
use Words.{Header, Message, Extent, EntryRefusal, IssuedCommand, NameEntry, SentMessage, ServerInput}
use Words.bodies
use Words.Events.{WorldTurn, world_step}
use Words.Extents as extents
use Words.Extents.{Extents}
use Words.History.{Traced, traced}
use Words.Keys.{page_no, same_file}
use Words.Lists.{Has}
use Words.Members.{has_last, has_left}
use Words.Names as names
use Words.Names.{Names}
use Words.Safety.{Promise, Step, step, steps}
use Words.Server as sv
use Words.Server.{ServerNode, ServerState, ServerTurn, Stable}
use Words.Tables.{and_both, and_true, found_at, has_append, has_filter, has_filter_in, has_map, has_map_in, none_has, not_true}
use Words.Truth.{clash, file_self}
use Words.World as world
use Words.World.{World, fresh_world}
use Rattle.std.specs.Option.{option_or}
use Rattle.st_rules.specs.declared.names.EntryRefusal.TheVariants as refusals
use Rattle.st_lemmas.proofs.Steps.{step_happens, throughout_all}
use Rattle.st_trace.specs.Server.Changing.{StableChange, Stays, Changes}
use Rattle.st_trace.specs.Server.Edits as edits
use Rattle.st_trace.specs.Server.Edits.{Ruled, Served}
use Rattle.st_trace.proofs.Server.Allocating.{allocated_pages_are_placed}
use Rattle.st_trace.proofs.Server.StableParts.{step_stable}
use Rattle.st_laws_volume.specs.Effects.{AllHaveFiles, HasFiles, MappedFilesExist}
use Rattle.st_laws_volume.specs.Logs.{InEveryRun}
use Rattle.st_laws_volume.specs.TreeNames.{IsSound}
use Rattle.st_laws_volume.specs.Witness.{Witness, begun}
use Rattle.st_laws_volume.proofs.Carried.{IsKept, Led, carried}
use Rattle.st_laws_volume.proofs.ReadPages.{throughout_more}
use Rattle.st_laws_volume.proofs.ServerFolds.{event_has}
use Rattle.st_laws_volume.proofs.TreeKinds.{file_at}
use Rattle.st_laws_volume.proofs.Trees.{Nothing, TreesHold, trees_begin, trees_kept}
use Rattle.st_laws_volume.proofs.TreeSound.{stay_sound}

-- A file has an entry.
pub record IsFileEntry (n : Names) (ino : ℕ) : Type 0 where
  pub entry : NameEntry
  pub has : Has entry n.entries
  pub its : entry.ino ≡ ino
  pub plain : entry.directory ≡ false

pub file_entry : (n : Names) (ino : ℕ) → names.is_file n ino ≡ true → IsFileEntry n ino
file_entry n ino f = go (ino == names.ROOT) f
  where
    marked : (o : Option NameEntry) → names.entry_of_ino n ino ≡ o → not (unwrap_or (option_map names.directory_mark o) true) ≡ true → IsFileEntry n ino
    marked None q m = cc
    marked (Some d) q m =
        let z = found_at (names.is_of_ino ino) n.entries d q in
        record { entry = d; has = z.1; its = eqb-true d.ino ino z.0; plain = not_true d.directory m }

    go : (b : Bool) → not (unwrap_or (if b then Some true else option_map names.directory_mark (names.entry_of_ino n ino)) true) ≡ true → IsFileEntry n ino
    go true m = cc
    go false m = marked (names.entry_of_ino n ino) refl m

pub entry_file : (n : Names) (ino : ℕ) → IsSound n → IsFileEntry n ino → names.is_file n ino ≡ true
entry_file n ino s f = sym (ap (names.is_file n) f.its) ∙ (file_at n s f.entry f.has ∙ ap not f.plain)

-- An entry stays, perhaps in another place.
pub record Stayed (m : Names) (e : NameEntry) : Type 0 where
  pub entry : NameEntry
  pub has : Has entry m.entries
  pub its : entry.ino ≡ e.ino
  pub kind : entry.directory ≡ e.directory

abbrev pub Stay : Names → Names → Type 0
Stay n m = (e : NameEntry) → Has e n.entries → Stayed m e

same_entry : (m : Names) (e : NameEntry) → Has e m.entries → Stayed m e
same_entry m e h = record { entry = e; has = h; its = refl; kind = refl }

pub files_stay : (n m : Names) → Stay n m → IsSound m → (ino : ℕ) → names.is_file n ino ≡ true → names.is_file m ino ≡ true
files_stay n m h s ino f =
    let e = file_entry n ino f in
    let x = h e.entry e.has in
    entry_file m ino s (record { entry = x.entry; has = x.has; its = x.its ∙ e.its; plain = x.kind ∙ e.plain })

-- Entries are added.
add_stays : (n : Names) (dir : ℕ) (name : List ℕ) (directory : Bool) (d : names.Changed) → names.add n dir name directory ≡ Ok d → Stay n d.names
unfolding names.add names.add_at names.add_beside names.add_new names.added
add_stays n dir name directory d q e h = go (names.place_refusal n dir name) q
  where
    room : (b : Bool) → ◌≡◌ {A = Result names.Changed EntryRefusal} (if b then Ok (names.added n dir name directory) else Err refusals.TooMany) (Ok d) →
        Stayed d.names e
    room true q = subst (λ (x : names.Changed). Stayed x.names e) (is q)
        (same_entry (names.added n dir name directory).names e (has_left n.entries (names.new_entry n dir name directory ∷ []) e h))
      where
        is : ◌≡◌ {A = Result names.Changed EntryRefusal} (Ok (names.added n dir name directory)) (Ok d) → names.added n dir name directory ≡ d
        is q = cc
    room false q = cc

    beside : (o : Option NameEntry) →
        ◌≡◌ {A = Result names.Changed EntryRefusal} (if is_some o then Err refusals.Exists else names.add_new n dir name directory) (Ok d) →
        Stayed d.names e
    beside (Some x) q = cc
    beside None q = room (nat_lt (names.live_inodes n) n.limit) q

    go : (o : Option EntryRefusal) → names.add_at n dir name directory o ≡ Ok d → Stayed d.names e
    go (Some r) q = cc
    go None q = beside (names.entry_at n dir name) q

pub create_stays : (n : Names) (dir : ℕ) (name : List ℕ) (d : names.Changed) → names.create n dir name ≡ Ok d → Stay n d.names
unfolding names.create
create_stays n dir name d q = add_stays n dir name false d q

pub mkdir_stays : (n : Names) (dir : ℕ) (name : List ℕ) (d : names.Changed) → names.mkdir n dir name ≡ Ok d → Stay n d.names
unfolding names.mkdir
mkdir_stays n dir name d q = add_stays n dir name true d q

-- An entry moves.
move_stays : (dir : ℕ) (name : List ℕ) (dir2 : ℕ) (name2 : List ℕ) (e : NameEntry) →
    ((names.move_entry dir name dir2 name2 e).ino ≡ e.ino) × ((names.move_entry dir name dir2 name2 e).directory ≡ e.directory)
unfolding names.moved
move_stays dir name dir2 name2 e = go (names.is_entry_at dir name e)
  where
    go : (b : Bool) → ((if b then names.moved dir2 name2 e else e).ino ≡ e.ino) × ((if b then names.moved dir2 name2 e else e).directory ≡ e.directory)
    go true = (refl, refl)
    go false = (refl, refl)

pub rename_stays : (n : Names) (dir : ℕ) (name : List ℕ) (dir2 : ℕ) (name2 : List ℕ) (d : names.Changed) → names.rename n dir name dir2 name2 ≡ Ok d →
    Stay n d.names
unfolding names.rename names.rename_at names.rename_found names.rename_entry names.rename_free names.renamed
rename_stays n dir name dir2 name2 d q e h = go (option_or (names.place_refusal n dir name) (names.place_refusal n dir2 name2)) q
  where
    moves : (x : NameEntry) → Stayed (names.renamed n dir name dir2 name2 x).names e
    moves x =
        let z = move_stays dir name dir2 name2 e in
        record {
          entry = names.move_entry dir name dir2 name2 e;
          has = has_map_in (names.move_entry dir name dir2 name2) n.entries e h;
          its = z.0;
          kind = z.1;
        }

    cycle : (x : NameEntry) (b : Bool) →
        ◌≡◌ {A = Result names.Changed EntryRefusal} (if b then Err refusals.Cycle else Ok (names.renamed n dir name dir2 name2 x)) (Ok d) → Stayed d.names e
    cycle x true q = cc
    cycle x false q = subst (λ (y : names.Changed). Stayed y.names e) (is q) (moves x)
      where
        is : ◌≡◌ {A = Result names.Changed EntryRefusal} (Ok (names.renamed n dir name dir2 name2 x)) (Ok d) → names.renamed n dir name dir2 name2 x ≡ d
        is q = cc

    free : (x : NameEntry) (o : Option NameEntry) →
        ◌≡◌ {A = Result names.Changed EntryRefusal} (if is_some o then Err refusals.Exists else names.rename_free n dir name dir2 name2 x) (Ok d) →
        Stayed d.names e
    free x (Some y) q = cc
    free x None q = cycle x (names.comes_under_itself n dir2 x) q

    at : (o : Option NameEntry) → names.rename_found n dir name dir2 name2 o ≡ Ok d → Stayed d.names e
    at None q = cc
    at (Some x) q = free x (names.entry_at n dir2 name2) q

    go : (o : Option EntryRefusal) → names.rename_at n dir name dir2 name2 o ≡ Ok d → Stayed d.names e
    go (Some r) q = cc
    go None q = at (names.entry_at n dir name) q

-- An entry goes.
remove_stays : (n : Names) → IsSound n → (dir : ℕ) (name : List ℕ) (d : names.Changed) → names.remove n dir name ≡ Ok d → (e : NameEntry) →
    Has e n.entries → Stayed d.names e ⊎ (e.ino ≡ d.ino)
unfolding names.remove names.remove_at names.remove_found names.remove_entry names.without
remove_stays n s dir name d q e h = go (names.place_refusal n dir name) q
  where
    gone : (r : NameEntry) → names.entry_at n dir name ≡ Some r → (b : Bool) → names.is_entry_at dir name e ≡ b →
        Stayed (names.without n dir name r).names e ⊎ (e.ino ≡ (names.without n dir name r).ino)
    gone r f true p =
        let z = found_at (names.is_entry_at dir name) n.entries r f in
        inr (ap (λ (x : NameEntry). x.ino) (s.places dir name e r h z.1 p z.0))
    gone r f false p =
        inl (same_entry (names.without n dir name r).names e (has_filter_in (λ x. not (names.is_entry_at dir name x)) n.entries e h (ap not p)))

    full : (r : NameEntry) → names.entry_at n dir name ≡ Some r → (b : Bool) →
        ◌≡◌ {A = Result names.Changed EntryRefusal} (if b then Err refusals.NotEmpty else Ok (names.without n dir name r)) (Ok d) →
        Stayed d.names e ⊎ (e.ino ≡ d.ino)
    full r f true q = cc
    full r f false q =
        subst (λ (x : names.Changed). Stayed x.names e ⊎ (e.ino ≡ x.ino)) (is q) (gone r f (names.is_entry_at dir name e) refl)
      where
        is : ◌≡◌ {A = Result names.Changed EntryRefusal} (Ok (names.without n dir name r)) (Ok d) → names.without n dir name r ≡ d
        is q = cc

    at : (o : Option NameEntry) → names.entry_at n dir name ≡ o → names.remove_found n dir name o ≡ Ok d → Stayed d.names e ⊎ (e.ino ≡ d.ino)
    at None f q = cc
    at (Some r) f q = full r f (names.is_full n r) q

    go : (o : Option EntryRefusal) → names.remove_at n dir name o ≡ Ok d → Stayed d.names e ⊎ (e.ino ≡ d.ino)
    go (Some r) q = cc
    go None q = at (names.entry_at n dir name) refl q

-- other files than the one that goes
pub others_stay : (n : Names) → IsSound n → (dir : ℕ) (name : List ℕ) (d : names.Changed) → names.remove n dir name ≡ Ok d → (ino : ℕ) →
    (ino ≡ d.ino → ⊥) → names.is_file n ino ≡ true → names.is_file d.names ino ≡ true
others_stay n s dir name d q ino o f =
    let e = file_entry n ino f in by e (remove_stays n s dir name d q e.entry e.has)
  where
    by : (e : IsFileEntry n ino) → Stayed d.names e.entry ⊎ (e.entry.ino ≡ d.ino) → names.is_file d.names ino ≡ true
    by e (inl x) =
        entry_file d.names ino (stay_sound.remove dir name n d s q)
        (record { entry = x.entry; has = x.has; its = x.its ∙ e.its; plain = x.kind ∙ e.plain })
    by e (inr i) = absurd (o (sym e.its ∙ i))

-- Pages that are allocated belong to the file.
pub placed_rows : (f : FileId) (ps : List PageNo) (x : Extents) (e : Extent) → Has e (extents.place_pages f ps x).rows → Has e x.rows ⊎ (e.file ≡ f)
unfolding extents.place_pages extents.place_on
placed_rows f [] x e h = inl h
placed_rows f (p ∷ ps) x e h = go (extents.free_blocks x) (placed_rows f ps (extents.place_on x f p (extents.free_blocks x)) e h)
  where
    go : (bs : List BlockAt) → Has e (extents.place_on x f p bs).rows ⊎ (e.file ≡ f) → Has e x.rows ⊎ (e.file ≡ f)
    go bs (inr q) = inr q
    go [] (inl i) = inl i
    go (b ∷ bs) (inl i) = last (has_append x.rows (extents.new_extent x f p b ∷ []) e i)
      where
        last : Has e x.rows ⊎ Has e (extents.new_extent x f p b ∷ []) → Has e x.rows ⊎ (e.file ≡ f)
        last (inl j) = inl j
        last (inr (inl j)) = inr (ap (λ (y : Extent). y.file) j)
        last (inr (inr j)) = absurd j

-- pages that stay mapped after a file was cut from its first page on are of other files
rows_left : (s : ServerId) (ino : ℕ) (x : Extents) (e : Extent) → e.file.server ≡ s →
    Has e (extents.release_from x (record { server = s; ino = ino }) (page_no 0)).rows → Has e x.rows × (e.file.ino ≡ ino → ⊥)
unfolding extents.release_from
rows_left s ino x e q h =
    let f : FileId = record { server = s; ino = ino } in
    let z = has_filter (λ y. not (extents.is_at_or_behind f (page_no 0) y)) x.rows e h in (
      z.0,
      λ i. clash (and_both (same_file e.file f) (nat_le 0 e.page.0)
          (and_both (e.file.server.0 == s.0) (e.file.ino == ino) (eq-eqb e.file.server.0 s.0 (ap (λ (y : ServerId). y.0) q)) (eq-eqb e.file.ino ino i))
          (le-leb 0 e.page.0 (omega arith)))
          (not_true (extents.is_at_or_behind f (page_no 0) e) z.1),
    )

pub rows_fewer : (f : FileId) (p : PageNo) (x : Extents) (e : Extent) → Has e (extents.release_from x f p).rows → Has e x.rows
unfolding extents.release_from
rows_fewer f p x e h = (has_filter (λ y. not (extents.is_at_or_behind f p y)) x.rows e h).0

-- What a request makes of the stable part.
module _ (s : ServerId) (now : Stamp) (t : ServerTurn) (id : t.state.id ≡ s) (sound : IsSound t.state.stable.names) (old : HasFiles s t.state.stable) where
  abbrev H : ServerTurn → Type 0
  H u = HasFiles s u.state.stable

  names_more : (m : Names) → IsSound m → Stay t.state.stable.names m → H (sv.with_names m t)
  names_more m k h e i q = files_stay t.state.stable.names m h k e.file.ino (old e i q)

  allocated : (ino : ℕ) (p : PageNo) (count : ℕ) (y : Extents) → names.is_file t.state.stable.names ino ≡ true →
      extents.allocate t.state.stable.extents (sv.file t ino) p count ≡ Ok y → H (sv.with_extents y t)
  allocated ino p count y f e x i z =
      go (placed_rows (sv.file t ino) (extents.unmapped t.state.stable.extents (sv.file t ino) p count) t.state.stable.extents x
      (subst (λ (w : Extents). Has x w.rows) (sym (allocated_pages_are_placed t.state.stable.extents (sv.file t ino) p count y e)) i))
    where
      go : Has x t.state.stable.extents.rows ⊎ (x.file ≡ sv.file t ino) → names.is_file t.state.stable.names x.file.ino ≡ true
      go (inl j) = old x j z
      go (inr j) = ap (λ (w : FileId). names.is_file t.state.stable.names w.ino) j ∙ f

  rule_has : (h : Header) (m : Body) (u : ServerTurn) (b : Body) → Ruled now t h m u b → H u
  unfolding sv.cut_whole sv.cut_pages
  rule_has h m _ b (edits.Tells _ _ k) = old
  rule_has h m _ b (edits.Acquires ino mode a f k g) = old
  rule_has h m _ b (edits.Releases ino g to l e f) = old
  rule_has h m _ b (edits.Allocates ino g p count y f q e) = allocated ino p count y f e
  rule_has h m _ b (edits.Cuts ino g p f q) = λ x i z. old x (rows_fewer (sv.file t ino) p t.state.stable.extents x i) z
  rule_has h m _ b (edits.Creates dir l d e) =
      names_more d.names (stay_sound.create dir l t.state.stable.names d sound e) (create_stays t.state.stable.names dir l d e)
  rule_has h m _ b (edits.MakesDir dir l d e) =
      names_more d.names (stay_sound.mkdir dir l t.state.stable.names d sound e) (mkdir_stays t.state.stable.names dir l d e)
  rule_has h m _ b (edits.Renames dir l dir2 l2 d e) =
      names_more d.names (stay_sound.rename dir l dir2 l2 t.state.stable.names d sound e) (rename_stays t.state.stable.names dir l dir2 l2 d e)
  rule_has h m _ b (edits.RemovesDir dir l g ino d k f z e q) =
      λ x i w. others_stay t.state.stable.names sound dir l d e x.file.ino
      (λ j. clash (old x i w) (ap (names.is_file t.state.stable.names) (j ∙ q) ∙ f)) (old x i w)
  rule_has h m _ b (edits.RemovesFile dir l g ino d k f z e q) =
      λ x i w. let r = rows_left t.state.id d.ino t.state.stable.extents x (w ∙ sym id) i in
      others_stay t.state.stable.names sound dir l d e x.file.ino r.1 (old x r.0 w)

step_has : (n : ServerState) (now : Stamp) (i : ServerInput) → IsSound n.stable.names → HasFiles n.id n.stable →
    HasFiles n.id (sv.server_step n now i).state.stable
step_has n now i sound h = go (sv.server_step n now i).state.stable (step_stable n now i)
  where
    go : (y : Stable) → StableChange n now i y → HasFiles n.id y
    go _ Stays = h
    go _ (Changes m t u b v r) =
        let x = v.asked.heard.came.begun in
        rule_has n.id now t x.id (subst (λ (z : Stable). IsSound z.names) (sym x.stable) sound) (subst (HasFiles n.id) (sym x.stable) h) m.header m.body u b r

mapped_alike : (s : ServerId) (y z : Stable) → z.names ≡ y.names → z.extents ≡ y.extents → HasFiles s y → HasFiles s z
mapped_alike s y z n x h e i q = ap (λ m. names.is_file m e.file.ino) n ∙ h e (subst (λ (r : Extents). Has e r.rows) x i) q

-- In every run.
pub record FilesHold (past : List Step) (t : Traced) (it : Witness) : Type 0 where
  pub trees : TreesHold past t it
  pub mapped : AllHaveFiles t.world

pub files_kept : IsKept Nothing FilesHold
files_kept past t e sc it f g h =
    record {
      trees = trees_kept past t e sc it f g h.trees;
      mapped = subst (λ (z : WorldTurn). AllHaveFiles z.world) (sym (step_happens t.world e sc f).1)
          (event_has HasFiles mapped_alike step_has t.world h.trees.sound h.mapped e);
    }

pub files_begin : (k : Words.Config) (clients servers disks blocks form : ℕ) →
    FilesHold [] (traced (fresh_world k clients servers disks blocks form))
    (begun (fresh_world k clients servers disks blocks form) (fresh_world k clients servers disks blocks form))
unfolding fresh_world sv.fresh_server
files_begin k clients servers disks blocks form =
    record {
      trees = trees_begin k clients servers disks blocks form;
      mapped =
          λ node i.
          let z = has_map (world.node_at_start k servers disks blocks) (extents.numbers 1 servers) node i in
          subst (λ (n : ServerNode). HasFiles n.state.id n.state.stable) (sym z.2) (λ e j. absurd j);
    }

pub mapped_files_exist : InEveryRun MappedFilesExist
mapped_files_exist k clients servers disks blocks form es head events =
    throughout_more (Led FilesHold) MappedFilesExist (λ past x h. h.mapped) [] (steps es (traced (fresh_world k clients servers disks blocks form)))
    (carried Nothing FilesHold files_kept es (traced (fresh_world k clients servers disks blocks form)) (files_begin k clients servers disks blocks form)
    (throughout_all Nothing (λ past t e sc f. tt) es [] (traced (fresh_world k clients servers disks blocks form))))
