-- In every run a file that is gone from the names of a server never comes back: each new entry has the next inode number.
use Rattle.std.proofs.Common.{◌≡◌, ◌≢◌, ◌<◌, ◌⊎◌, arith, ℕ, zero, suc, ◌+◌, Bool, true, false, not, ◌==◌, List, [], ◌∷◌, map, Option, Some, None, Ok, Err, refl, sym, ap, ◌∙◌, subst, inl, inr, if◌then◌else◌}
use Rattle.std.specs.Option.{option_or}
use Rattle.std.specs.Prelude.{is_some, nat_lt, option_map, slice_get, unwrap_or, Result}
use Rattle.std.proofs.lemmas.Bool.{eqb-true}
use Rattle.st_base.specs.declared.ids.GrantNo.{GrantNo}
use Rattle.st_base.specs.declared.ids.NodeId.{NodeId}
use Rattle.st_base.specs.declared.ids.NodeId.TheVariants as nodes
use Rattle.st_base.specs.declared.ids.ServerId.{ServerId}
use Rattle.st_base.specs.declared.names.NameRow.{NameRow}
use Rattle.st_messages.specs.declared.event.Event.{Event}
use Rattle.st_messages.specs.declared.event.Event.TheVariants as events
use Rattle.st_messages.specs.declared.message.Message.{Message}
use Rattle.st_messages.specs.declared.message.NameOp.{NameOp}
use Rattle.st_messages.specs.declared.message.NameOp.TheVariants as ops
use Rattle.st_rules.specs.declared.client.ClientInput.TheVariants as inputs
use Rattle.st_rules.specs.declared.input.ServerInput.TheVariants as serving
use Rattle.st_rules.specs.declared.names.EntryRefusal.{EntryRefusal}
use Rattle.st_rules.specs.declared.names.EntryRefusal.TheVariants as refusals
use Rattle.st_rules.specs.declared.names.NameEntry.{NameEntry}
use Rattle.st_rules.specs.declared.world.SentMessage.{SentMessage}
use Rattle.st_rules.specs.Events as ev
use Rattle.st_rules.specs.Events.{WorldTurn, world_step}
use Rattle.st_rules.specs.History.{Traced, traced}
use Rattle.st_rules.specs.Names as names
use Rattle.st_rules.specs.Names.{Names}
use Rattle.st_rules.specs.Safety.{Step, step, steps}
use Rattle.st_rules.specs.Server.{ServerNode}
use Rattle.st_rules.specs.World as world
use Rattle.st_rules.specs.World.{World, fresh_world, message_of, node_of, receiver_of, site_of, with_numbered}
use Rattle.st_lemmas.specs.Lists.{Has}
use Rattle.st_lemmas.proofs.Lookups.{some_is}
use Rattle.st_lemmas.proofs.Numbers.{get_map, numbered_has}
use Rattle.st_lemmas.proofs.Steps.{step_happens, throughout_all}
use Rattle.st_lemmas.proofs.Tables.{found_at, has_append, has_filter, has_map}
use Rattle.st_promises.specs.NameAnswers.{Saying, changed, found, listed, refused}
use Rattle.st_laws_requests.specs.Cuts.Cuts.{does, does_remove, does_remove_dir}
use Rattle.st_laws_leases.proofs.Dates.Leaving.{set_cases}
use Rattle.st_laws_cuts.specs.ServedRequests.{NamesBy}
use Rattle.st_laws_cuts.proofs.Naming.{step_names}
use Rattle.st_laws_volume.specs.Logs.{InEveryRun}
use Rattle.st_laws_volume.specs.Refusals.{GoneFilesStayGone}
use Rattle.st_laws_volume.specs.TreeNames.{IsSound}
use Rattle.st_laws_volume.specs.Witness.{Witness, now_at}
use Rattle.st_laws_volume.proofs.Carried.{IsKept, Led, carried}
use Rattle.st_laws_volume.proofs.ReadPages.{throughout_more}
use Rattle.st_laws_volume.proofs.TreeKinds.{file_at}
use Rattle.st_laws_volume.proofs.Trees.{Nothing, TreesHold, trees_begin, trees_kept}
use Rattle.st_laws_volume.proofs.TreeWorld.{at_client_servers, event_same, is_delivery, node_after, stopped_servers, took_servers}

-- Gone: the inode was given, and no file has it.
abbrev pub Gone : Names → ℕ → Type 0
Gone n ino = (ino < n.next) × ((e : NameEntry) → Has e n.entries → e.ino ≡ ino → e.directory ≡ true)

module _ (n : Names) (ino : ℕ) (h : Gone n ino) where
  abbrev GoneAfter : Result names.Changed EntryRefusal → Type 0
  GoneAfter (Ok d) = Gone d.names ino
  GoneAfter (Err r) = Unit {0}

  below : n.next ≡ ino → ⊥
  below q = let l = h.0 in no l q
    where
      no : ino < n.next → n.next ≡ ino → ⊥
      no l q = omega (arith, l, q)

  more : ino < n.next + 1
  more = let l = h.0 in omega (arith, l)

  added_gone : (dir : ℕ) (name : List ℕ) (directory : Bool) → Gone (names.added n dir name directory).names ino
  unfolding names.added
  added_gone dir name directory = (more, λ e i q. go e (has_append n.entries (names.new_entry n dir name directory ∷ []) e i) q)
    where
      go : (e : NameEntry) → Has e n.entries ⊎ Has e (names.new_entry n dir name directory ∷ []) → e.ino ≡ ino → e.directory ≡ true
      go e (inl i) q = h.1 e i q
      go e (inr (inl w)) q = absurd (below (sym (ap (λ (x : NameEntry). x.ino) w) ∙ q))
      go e (inr (inr i)) q = absurd i

  add_gone : (dir : ℕ) (name : List ℕ) (directory : Bool) → GoneAfter (names.add n dir name directory)
  unfolding names.add names.add_at names.add_beside names.add_new
  add_gone dir name directory = go (names.place_refusal n dir name)
    where
      room : (b : Bool) → GoneAfter (if b then Ok (names.added n dir name directory) else Err refusals.TooMany)
      room true = added_gone dir name directory
      room false = tt

      beside : (b : Bool) → GoneAfter (if b then Err refusals.Exists else names.add_new n dir name directory)
      beside true = tt
      beside false = room (nat_lt (names.live_inodes n) n.limit)

      go : (o : Option EntryRefusal) → GoneAfter (names.add_at n dir name directory o)
      go (Some r) = tt
      go None = beside (is_some (names.entry_at n dir name))

  without_gone : (dir : ℕ) (name : List ℕ) (r : NameEntry) → Gone (names.without n dir name r).names ino
  unfolding names.without
  without_gone dir name r = (h.0, λ e i q. h.1 e (has_filter (λ d. not (names.is_entry_at dir name d)) n.entries e i).0 q)

  remove_gone : (dir : ℕ) (name : List ℕ) → GoneAfter (names.remove n dir name)
  unfolding names.remove names.remove_at names.remove_found names.remove_entry
  remove_gone dir name = go (names.place_refusal n dir name)
    where
      full : (r : NameEntry) (b : Bool) → GoneAfter (if b then Err refusals.NotEmpty else Ok (names.without n dir name r))
      full r true = tt
      full r false = without_gone dir name r

      at : (o : Option NameEntry) → GoneAfter (names.remove_found n dir name o)
      at None = tt
      at (Some r) = full r (names.is_full n r)

      go : (o : Option EntryRefusal) → GoneAfter (names.remove_at n dir name o)
      go (Some r) = tt
      go None = at (names.entry_at n dir name)

  moves : (dir2 : ℕ) (name2 : List ℕ) (x : NameEntry) (b : Bool) →
      ((if b then names.moved dir2 name2 x else x).ino ≡ x.ino) × ((if b then names.moved dir2 name2 x else x).directory ≡ x.directory)
  unfolding names.moved
  moves dir2 name2 x true = (refl, refl)
  moves dir2 name2 x false = (refl, refl)

  renamed_gone : (dir : ℕ) (name : List ℕ) (dir2 : ℕ) (name2 : List ℕ) (r : NameEntry) → Gone (names.renamed n dir name dir2 name2 r).names ino
  unfolding names.renamed
  renamed_gone dir name dir2 name2 r = (
    h.0,
    λ e i q.
        let z = has_map (names.move_entry dir name dir2 name2) n.entries e i in
        let m = moves dir2 name2 z.0 (names.is_entry_at dir name z.0) in
        ap (λ (x : NameEntry). x.directory) z.2 ∙ (m.1 ∙ h.1 z.0 z.1 (sym m.0 ∙ (sym (ap (λ (x : NameEntry). x.ino) z.2) ∙ q))),
  )

  rename_gone : (dir : ℕ) (name : List ℕ) (dir2 : ℕ) (name2 : List ℕ) → GoneAfter (names.rename n dir name dir2 name2)
  unfolding names.rename names.rename_at names.rename_found names.rename_entry names.rename_free
  rename_gone dir name dir2 name2 = go (option_or (names.place_refusal n dir name) (names.place_refusal n dir2 name2))
    where
      cycle : (e : NameEntry) (b : Bool) → GoneAfter (if b then Err refusals.Cycle else Ok (names.renamed n dir name dir2 name2 e))
      cycle e true = tt
      cycle e false = renamed_gone dir name dir2 name2 e

      free : (e : NameEntry) (b : Bool) → GoneAfter (if b then Err refusals.Exists else names.rename_free n dir name dir2 name2 e)
      free e true = tt
      free e false = cycle e (names.comes_under_itself n dir2 e)

      at : (o : Option NameEntry) → GoneAfter (names.rename_found n dir name dir2 name2 o)
      at None = tt
      at (Some e) = free e (is_some (names.entry_at n dir2 name2))

      go : (o : Option EntryRefusal) → GoneAfter (names.rename_at n dir name dir2 name2 o)
      go (Some r) = tt
      go None = at (names.entry_at n dir name)

  -- what names say to a request
  changed_gone : (r : Result names.Changed EntryRefusal) → GoneAfter r → Gone (changed n r).names ino
  changed_gone (Ok d) g = g
  changed_gone (Err r) g = h

  found_gone : (r : Result ℕ EntryRefusal) → Gone (found n r).names ino
  found_gone (Ok i) = h
  found_gone (Err r) = h

  listed_gone : (r : Result (List NameRow) EntryRefusal) → Gone (listed n r).names ino
  listed_gone (Ok rows) = h
  listed_gone (Err r) = h

  removes_gone : (dir : ℕ) (name : List ℕ) (g : GrantNo) (r : Result ℕ EntryRefusal) → Gone (does_remove n dir name g r).names ino
  removes_gone dir name g (Err r) = h
  removes_gone dir name g (Ok i) = file (names.is_file n i)
    where
      empty : (b : Bool) → Gone (if b then changed n (names.remove n dir name) else refused n refusals.IsDir).names ino
      empty true = changed_gone (names.remove n dir name) (remove_gone dir name)
      empty false = h

      file : (b : Bool) → Gone (if b then changed n (names.remove n dir name) else does_remove_dir n dir name g).names ino
      file true = changed_gone (names.remove n dir name) (remove_gone dir name)
      file false = empty (g.0 == 0)

  does_gone : (op : NameOp) → Gone (does n op).names ino
  unfolding names.create names.mkdir
  does_gone (ops.Lookup dir name) = found_gone (names.lookup n dir name)
  does_gone (ops.Create dir name) = changed_gone (names.add n dir name false) (add_gone dir name false)
  does_gone (ops.Mkdir dir name) = changed_gone (names.add n dir name true) (add_gone dir name true)
  does_gone (ops.Remove dir name g) = removes_gone dir name g (names.lookup n dir name)
  does_gone (ops.Rename dir name dir2 name2) = changed_gone (names.rename n dir name dir2 name2) (rename_gone dir name dir2 name2)
  does_gone (ops.List dir after) = listed_gone (names.list n dir after)

-- What a file that is gone tells, and when it is.
gone_file : (n : Names) → IsSound n → (ino : ℕ) → names.is_file n ino ≡ false → ino < n.next → Gone n ino
gone_file n s ino f l = (l, λ e i q. turned e.directory (sym (file_at n s e i) ∙ (ap (names.is_file n) q ∙ f)))
  where
    turned : (b : Bool) → not b ≡ false → b ≡ true
    turned true q = refl
    turned false q = cc q

pub no_file : (n : Names) (ino : ℕ) → Gone n ino → names.is_file n ino ≡ false
no_file n ino h = root (ino == names.ROOT)
  where
    entry : (o : Option NameEntry) → names.entry_of_ino n ino ≡ o → not (unwrap_or (option_map names.directory_mark o) true) ≡ false
    entry None q = refl
    entry (Some e) q = let z = found_at (names.is_of_ino ino) n.entries e q in ap not (h.1 e z.1 (eqb-true e.ino ino z.0))

    root : (b : Bool) →
        not (unwrap_or (if b then Some true else option_map names.directory_mark (names.entry_of_ino n ino)) true) ≡ false
    root true = refl
    root false = entry (names.entry_of_ino n ino) refl

-- The servers after an event.
abbrev pub names_at : ServerNode → Names
names_at node = node.state.stable.names

record CameFrom (t : World) (s : ServerId) (new : ServerNode) : Type 0 where
  old : ServerNode
  was : node_of t s ≡ Some old
  stays : (ino : ℕ) → Gone (names_at old) ino → Gone (names_at new) ino

abbrev AllCame : World → World → Type 0
AllCame t v = (s : ServerId) (new : ServerNode) → node_of v s ≡ Some new → CameFrom t s new

stay : (t v : World) → v.servers ≡ t.servers → AllCame t v
stay t v q s new at = record { old = new; was = ap (λ z. world.numbered z s.0) (sym q) ∙ at; stays = λ ino g. g }

same_names : (t v : World) → map names_at v.servers ≡ map names_at t.servers → AllCame t v
same_names t v same s new at = go s.0 refl at
  where
    go : (n : ℕ) → s.0 ≡ n → world.numbered v.servers n ≡ Some new → CameFrom t s new
    go zero e q = cc q
    go (suc n) e q =
        by (slice_get t.servers n) refl
        (sym (get_map names_at t.servers n)
        ∙ (ap (λ zs. slice_get zs n) (sym same) ∙ (get_map names_at v.servers n ∙ ap (option_map names_at) q)))
      where
        by : (o : Option ServerNode) → slice_get t.servers n ≡ o → option_map names_at o ≡ Some (names_at new) → CameFrom t s new
        by None p z = cc z
        by (Some old) p z =
            record {
              old = old;
              was = ap (world.numbered t.servers) e ∙ p;
              stays = λ ino g. subst (λ m. Gone m ino) (some_is z) g;
            }

one_other : (t v : World) (s : ServerId) (old new : ServerNode) → node_of t s ≡ Some old → v.servers ≡ with_numbered s.0 new t.servers →
    ((ino : ℕ) → Gone (names_at old) ino → Gone (names_at new) ino) → AllCame t v
one_other t v s old new at q how y n there = go (set_cases t.servers s.0 y.0 old new n at (ap (λ z. world.numbered z y.0) (sym q) ∙ there))
  where
    own : CameFrom t s new
    own = record { old = old; was = at; stays = how }

    go : ((y.0 ≡ s.0) × (n ≡ new)) ⊎ ((y.0 ≢ s.0) × (node_of t y ≡ Some n)) → CameFrom t y n
    go (inl z) = subst (CameFrom t y) (sym z.1) (subst (λ k. CameFrom t (record { 0 = k }) new) (sym z.0) own)
    go (inr z) = record { old = n; was = z.1; stays = λ ino g. g }

module _ (t : World) where
  served : (s : ServerId) (m : Message) (node : ServerNode) (ino : ℕ) → Gone (names_at node) ino →
      Gone (names_at (node_after node (now_at t s) (serving.Control m))) ino
  served s m node ino g = go (step_names node.state (now_at t s) (serving.Control m))
    where
      new : Names
      new = names_at (node_after node (now_at t s) (serving.Control m))

      go : (new ≡ names_at node) ⊎ ((x : Message) × (serving.Control m ≡ serving.Control x) × NamesBy node.state x new) → Gone new ino
      go (inl q) = subst (λ x. Gone x ino) (sym q) g
      go (inr (x, e, b)) =
          subst (λ y. Gone y ino) (ap (λ (y : Saying). y.names) b.did) (does_gone (names_at node) ino g b.op)

  to_server : (s : ServerId) (m : Message) (o : Option ServerNode) → node_of t s ≡ o → AllCame t (ev.at_server (ev.counted t) s (serving.Control m) o).world
  unfolding ev.at_server
  to_server s m None at = stay t (ev.quiet (ev.counted t)).world refl
  to_server s m (Some node) at = go node.running refl
    where
      go : (b : Bool) → node.running ≡ b → AllCame t (ev.server_takes (ev.counted t) s (serving.Control m) node).world
      go true r =
          one_other t (ev.server_takes (ev.counted t) s (serving.Control m) node).world s node (node_after node (now_at t s) (serving.Control m)) at
          (took_servers t s (serving.Control m) node r) (served s m node)
      go false r = stay t (ev.server_takes (ev.counted t) s (serving.Control m) node).world (stopped_servers t s (serving.Control m) node r)

  delivered : (k : ℕ) → AllCame t (ev.happens (ev.counted t) (events.Deliver k)).world
  unfolding ev.happens ev.delivers ev.delivers_to
  delivered k = go (message_of t k)
    where
      to : (m : SentMessage) (n : NodeId) → AllCame t (ev.delivers_to (ev.counted t) m.message n).world
      to m (nodes.Client c) =
          stay t (ev.at_client (ev.counted t) c (inputs.Control m.message) (site_of t c)).world
          (at_client_servers (ev.counted t) c (inputs.Control m.message) (site_of t c))
      to m (nodes.Server s) = to_server s m.message (node_of t s) refl

      go : (o : Option SentMessage) → AllCame t (ev.delivers (ev.counted t) o).world
      go None = stay t (ev.quiet (ev.counted t)).world refl
      go (Some m) = to m (receiver_of m)

  same_as : (x y : ServerNode) → y.state.stable.names ≡ x.state.stable.names → names_at y ≡ names_at x
  same_as x y e = e

  plain : (e : Event) → is_delivery e ≡ false → AllCame t (ev.happens (ev.counted t) e).world
  plain e q = same_names t (ev.happens (ev.counted t) e).world (event_same Names names_at same_as t e q)

  came : (e : Event) → AllCame t (ev.happens (ev.counted t) e).world
  came (events.Deliver k) = delivered k
  came (events.Tick n) = plain (events.Tick n) refl
  came (events.App c ask) = plain (events.App c ask) refl
  came (events.Lose k) = plain (events.Lose k) refl
  came (events.Cut from to) = plain (events.Cut from to) refl
  came (events.Heal from to) = plain (events.Heal from to) refl
  came (events.Advance increments) = plain (events.Advance increments) refl
  came (events.Effect k) = plain (events.Effect k) refl
  came (events.Report k ok) = plain (events.Report k ok) refl
  came (events.Crash n) = plain (events.Crash n) refl
  came (events.Start n) = plain (events.Start n) refl

-- What is carried: what was gone as a step began is gone now.
abbrev pub StayGone : Step → World → Type 0
StayGone y w =
    (s : ServerId) (before after : ServerNode) (ino : ℕ) → node_of y.before.world s ≡ Some before → names.is_file (names_at before) ino ≡ false →
    ino < (names_at before).next → node_of w s ≡ Some after → Gone (names_at after) ino

pub record GoneHold (past : List Step) (t : Traced) (it : Witness) : Type 0 where
  pub trees_ : TreesHold past t it
  pub gone : (y : Step) → Has y past → StayGone y t.world

pub gone_kept : IsKept Nothing GoneHold
gone_kept past t e sc it f g h =
    record { trees_ = trees_kept past t e sc it f tt h.trees_; gone = λ y i. go y (has_append past (step t e sc ∷ []) y i) }
  where
    all : AllCame t.world sc.world
    all = subst (λ (z : WorldTurn). AllCame t.world z.world) (sym (step_happens t.world e sc f).1) (came t.world e)

    now : StayGone (step t e sc) sc.world
    now s before after ino at q l there =
        let z = all s after there in
        z.stays ino
        (subst (λ (x : ServerNode). Gone (names_at x) ino) (some_is (sym at ∙ z.was))
        (gone_file (names_at before) (h.trees_.sound before (numbered_has t.world.servers s.0 before at)) ino q l))

    later : (y : Step) → StayGone y t.world → StayGone y sc.world
    later y k s before after ino at q l there = let z = all s after there in z.stays ino (k s before z.old ino at q l z.was)

    go : (y : Step) → Has y past ⊎ Has y (step t e sc ∷ []) → StayGone y sc.world
    go y (inl i) = later y (h.gone y i)
    go y (inr (inl q)) = subst (λ z. StayGone z sc.world) (sym q) now
    go y (inr (inr i)) = absurd i

-- In every run.
pub gone_files_stay_gone : InEveryRun GoneFilesStayGone
gone_files_stay_gone k clients servers disks blocks form es head events =
    let t : Traced = traced (fresh_world k clients servers disks blocks form) in
    throughout_more (Led GoneHold) GoneFilesStayGone
    (λ past x h. λ y i s before after ino at q l there. no_file (names_at after) ino (h.gone y i s before after ino at q l there)) [] (steps es t)
    (carried Nothing GoneHold gone_kept es t (record { trees_ = trees_begin k clients servers disks blocks form; gone = λ y i. absurd i })
    (throughout_all Nothing (λ past t e sc f. tt) es [] t))
