-- The file of each write and patch exists, and what is pending of the file is its client's: in every run.
use Rattle.st_lemmas.proofs.Words
use Words.{◌≡◌, ◌⊎◌, ℕ, ◌+◌, ◌≤◌, arith, true, ◌&&◌, ◌==◌, List, [], ◌∷◌, ◌++◌, Option, Some, None, Ok, refl, sym, ap, ◌∙◌, subst, inl, inr}
use Words.{eq-eqb, eqb-true, list_any, ltb-true, option_map, ClientId, Config, FileId, PageNo, ServerId, Stamp, Event}
use Words.{DirtyPage, Extent, KnownExtent, LogEntry, MappedBlock, Observation}
use Words.nodes
use Words.seen
use Words.Client as cl
use Words.ClientLease as lease
use Words.ClientLocks.{is_lock_on}
use Words.ClientPages as pages
use Words.ClientState.{Association, ClientSession, is_at}
use Words.Events.{WorldTurn, world_step}
use Words.Extents as extents
use Words.FlatLog.{is_pending}
use Words.History.{Traced, association_at, association_of, is_exclusive_on, locks_at, traced, traced_after}
use Words.Keys.{client, same_client, same_page}
use Words.Lists.{Has}
use Words.Lookups.{or_left}
use Words.Lengths.{numbered_there}
use Words.Members.{some_member_passes}
use Words.Names as names
use Words.Numbers.{numbered_has}
use Words.Safety.{ChangesAreLocked, has_row, Promise, Step, changes_alone, has_dirty_page, has_exclusive, holds, is_before, is_change_locked, is_event, lasts, lasts_at, step, steps}
use Words.Server.{ServerNode}
use Words.Tables.{and_both, and_true, each_passes, found_at, some_passes}
use Words.Truth.{clash, file_is, some_there}
use Words.World.{World, WorldClient, clock_of, fresh_world, node_of, site_of}
use Rattle.st_protocol.specs.Assoc as net
use Rattle.st_lemmas.proofs.Steps.{throughout_under}
use Rattle.st_promises.specs.Safe.{EveryRunIsSafe, IsSafeRun}
use Rattle.st_laws_steps.specs.Lives.Lives.{NodeHolds}
use Rattle.st_laws_refine.specs.Client.Invariants.{Lasts}
use Rattle.st_laws_refine.specs.Server.Pair.{terms_of}
use Rattle.st_laws_refine.specs.Views.Halves.{held_in}
use Rattle.st_laws_pages.specs.Asks.Law.{PlacesAfter, PlacesHold}
use Rattle.st_laws_pages.specs.Disks.Runs.{PagesAfter}
use Rattle.st_laws_pages.specs.Disks.World.{mapped_at, mapped_in}
use Rattle.st_laws_pages.specs.Flush.Flush.{FlushHold}
use Rattle.st_laws_pages.proofs.Asks.Law.{places_law}
use Rattle.st_laws_pages.proofs.Causes.Law.{Stand, fresh_places, fresh_stand, one_step}
use Rattle.st_laws_leases.specs.Sides.World.{AllStand}
use Rattle.st_laws_leases.proofs.Sides.DirtyPages.{Lasting, dirty_mode, lasting}
use Rattle.st_laws_leases.proofs.Sides.Runs.{full}
use Rattle.st_laws_reads.specs.AllClients.Events.{FrozenStandAlone}
use Rattle.st_laws_reads.specs.Copies.Copies.{file_at}
use Rattle.st_laws_reads.specs.Copies.World.{Unheld}
use Rattle.st_laws_reads.specs.FrozenLives.PendingEntries.{FrozenHold}
use Rattle.st_laws_reads.proofs.FrozenLives.Law.{alone, events_keep, first}
use Rattle.st_laws_extents.specs.Known.Known.{Knows}
use Rattle.st_laws_extents.specs.Known.Law.{KnownAfter}
use Rattle.st_laws_extents.specs.Known.WritePlaces.{AllKnow, LiesAs, lies}
use Rattle.st_laws_extents.proofs.EveryRun.Law.{pages as pages_after}
use Rattle.st_laws_extents.proofs.LockedRequests.Law.{known}
use Rattle.st_laws_volume.specs.Effects.{AllHaveFiles, ChangesFindTheirFiles, FindsFile, LineFinds, MappedFilesExist}
use Rattle.st_laws_volume.specs.Logs.{InEveryRun}
use Rattle.st_laws_volume.proofs.MappedFiles.{mapped_files_exist}
use Rattle.st_laws_volume.proofs.PendingAlone.{client_there, no_other, server_same}
use Rattle.st_laws_volume.proofs.ReadPages.{throughout_both}

-- If a lease lasts.
lasts_session : (k : Config) (clock : Stamp) (o : Option ClientSession) → is_before clock (lease.end_at k (option_map cl.lease_of_session o)) ≡ true →
    Lasts k.lease clock.0 o
lasts_session k clock None h = tt
lasts_session k clock (Some s) h = ltb-true clock.0 (s.lease.date.0 + k.lease) h

pub unheld_at : (f : FileId) (l now : ℕ) (xs : List Association) (a : Association) → Unheld f l now xs → Has a xs → Lasts l now a.session → f.server ≡ a.server →
    (held_in a.session f.ino).mode ≡ 0
unheld_at f l now [] a u h = absurd h
unheld_at f l now (x ∷ xs) a u (inl e) =
    subst (λ (y : Association). Lasts l now y.session → f.server ≡ y.server → (held_in y.session f.ino).mode ≡ 0) (sym e) u.one
unheld_at f l now (x ∷ xs) a u (inr h) = unheld_at f l now xs a u.rest h

-- what is known of a page, as its extent
known_at : (w : World) (a : Association) → Knows (lies w) a → (ino : ℕ) (p : PageNo) (m : MappedBlock) → pages.mapping_of a.store.extents ino p ≡ Some m →
    lies w a.server ino p m
known_at w a h ino p m q = go (pages.known_of a.store.extents ino p) refl q
  where
    none_some : ◌≡◌ {A = Option MappedBlock} None (Some m) → ⊥
    none_some z = cc

    go : (o : Option KnownExtent) → pages.known_of a.store.extents ino p ≡ o → pages.mapping_at o ≡ Some m → lies w a.server ino p m
    go None f q = absurd (none_some q)
    go (Some k) f q =
        let z = found_at (pages.is_known_of ino p) a.store.extents k f in
        let b = and_true (k.ino == ino) (same_page k.page p) z.0 in
        let y = (h k z.1).is m q in
        let n = eqb-true k.ino ino b.0 in
        let g : k.page ≡ p = ap (λ v. record { 0 = v }) (eqb-true k.page.0 p.0 b.1) in
        subst (λ (v : PageNo). lies w a.server ino v m) g (subst (λ (v : ℕ). lies w a.server v k.page m) n y)

-- A world in which all holds.
module _ (k : net.Config) (count : ℕ) (past : List Step) (w : World) (all : AllStand k count w) (frozen : FrozenStandAlone w) (flush : FlushHold past w)
    (knows : AllKnow w) (files : AllHaveFiles w) where
  holds_of : (c : ClientId) (site : WorldClient) → site_of w c ≡ Some site → NodeHolds w.config w.clocks w.ended c site.node
  holds_of c site at = all.fates.lives.lives.sites c site at

  -- A client whose change of a page was logged: it runs, and the page is dirty.
  module _ (c : ClientId) (f : FileId) (p : PageNo) (change : changes_alone w c f p ≡ true) where
    lasting_there : lasts w c f.server ≡ true
    lasting_there =
        (and_true (lasts w c f.server) (has_exclusive f.ino (association_of w c f.server) && has_dirty_page f.ino p (association_of w c f.server)) change).0

    rest : (has_exclusive f.ino (association_of w c f.server) ≡ true) × (has_dirty_page f.ino p (association_of w c f.server) ≡ true)
    rest =
        and_true (has_exclusive f.ino (association_of w c f.server)) (has_dirty_page f.ino p (association_of w c f.server))
        (and_true (lasts w c f.server) (has_exclusive f.ino (association_of w c f.server) && has_dirty_page f.ino p (association_of w c f.server)) change).1

    held_there : holds w c f ≡ true
    held_there =
        let z = some_member_passes (is_exclusive_on f.ino) (locks_at (association_of w c f.server)) rest.0 in
        and_both (lasts w c f.server) (list_any (is_lock_on f.ino) (locks_at (association_of w c f.server))) lasting_there
        (some_passes (is_lock_on f.ino) (locks_at (association_of w c f.server)) z.0 z.1 (and_true (is_lock_on f.ino z.0) _ z.2).0)

    record Writer : Type 0 where
      site : WorldClient
      there : site_of w c ≡ Some site
      runs : site.node.running ≡ true
      before : is_before (clock_of w (nodes.Client c)) (cl.lease_end_with site.node.state f.server) ≡ true
      association : Association
      found : cl.association_with site.node.state f.server ≡ Some association
      page : DirtyPage
      dirty : Has page association.store.pages.dirty
      is : pages.is_dirty_of f.ino p page ≡ true

    writer : Writer
    writer = go (site_of w c) refl lasting_there rest.1
      where
        go : (o : Option WorldClient) → site_of w c ≡ o → lasts_at (clock_of w (nodes.Client c)) f.server o ≡ true →
            has_dirty_page f.ino p (association_at f.server o) ≡ true → Writer
        go None at l d = cc
        go (Some site) at l d = by (cl.association_with site.node.state f.server) refl d
          where
            r : (site.node.running ≡ true) × (is_before (clock_of w (nodes.Client c)) (cl.lease_end_with site.node.state f.server) ≡ true)
            r = and_true site.node.running (is_before (clock_of w (nodes.Client c)) (cl.lease_end_with site.node.state f.server)) l

            by : (o : Option Association) → cl.association_with site.node.state f.server ≡ o → has_dirty_page f.ino p o ≡ true → Writer
            by None q d = cc
            by (Some a) q d =
                let z = some_member_passes (pages.is_dirty_of f.ino p) a.store.pages.dirty d in
                record { site = site; there = at; runs = r.0; before = r.1; association = a; found = q; page = z.0; dirty = z.1; is = z.2 }

    own : Writer
    own = writer

    abbrev a : Association
    a = own.association

    listed : (is_at f.server a ≡ true) × Has a own.site.node.state.associations
    listed = found_at (is_at f.server) own.site.node.state.associations a own.found

    of_server : a.server ≡ f.server
    of_server = server_same a.server f.server listed.0

    lasts_here : Lasts own.site.node.state.config.lease (clock_of w (nodes.Client c)).0 a.session
    lasts_here =
        lasts_session own.site.node.state.config (clock_of w (nodes.Client c)) a.session
        (subst (λ o. is_before (clock_of w (nodes.Client c)) (lease.end_at own.site.node.state.config (cl.lease_at o)) ≡ true) own.found own.before)

    -- its server
    node_there : (node : ServerNode) × (node_of w f.server ≡ Some node)
    node_there =
        let z = flush.servers c own.site own.there a listed.1 in
        let q = ap (λ (s : ServerId). s.0) of_server in
        let low = z.0 in
        let high = z.1 in
        numbered_there w.servers f.server.0 (omega (arith, low, q)) (omega (arith, high, q))

    -- the page is mapped: the file exists
    mapped_there : (m : MappedBlock) × (pages.mapping_of a.store.extents f.ino p ≡ Some m)
    mapped_there =
        let q = found_some own.page (pages.dirty_of a.store.pages f.ino p) refl in
        some_there (pages.mapping_of a.store.extents f.ino p) (((holds_of c own.site own.there).fit a listed.1).mapped f.ino p q.0 q.1)
      where
        found_some : (d : DirtyPage) (o : Option DirtyPage) → pages.dirty_of a.store.pages f.ino p ≡ o →
            (x : DirtyPage) × (pages.dirty_of a.store.pages f.ino p ≡ Some x)
        found_some d (Some x) q = (x, q)
        found_some d None q = clash own.is (Words.Tables.none_has (pages.is_dirty_of f.ino p) a.store.pages.dirty q own.page own.dirty)

    file_there : (node : ServerNode) → node_of w f.server ≡ Some node → node.state.id ≡ f.server → names.is_file node.state.stable.names f.ino ≡ true
    file_there node at id =
        let lie = known_at w a ((knows c own.site own.there).knows own.runs a listed.1 lasts_here) f.ino p mapped_there.0 mapped_there.1 in
        let y = subst (λ (s : ServerId). LiesAs (mapped_in w (file_at s f.ino) p) mapped_there.0) of_server lie in
        let e : Extent = y.extent in
        let q = sym (ap (mapped_at f p) at) ∙ y.is in
        let z = found_at (extents.is_extent_of f p) node.state.stable.extents.rows e q in
        let g = file_is e.file f (and_true (Words.Keys.same_file e.file f) (same_page e.page p) z.0).0 in
        ap (λ (x : FileId). names.is_file node.state.stable.names x.ino) (sym g)
        ∙ files node (numbered_has w.servers f.server.0 node at) e z.1 (ap (λ (x : FileId). x.server) g ∙ sym id)

    -- No other client has a lock of the file, under a lease that is not over.
    is_held : (node : ServerNode) (at : node_of w f.server ≡ Some node) → (e : LogEntry) → e.of.file ≡ f →
        Unheld e.of.file own.site.node.state.config.lease (clock_of w (nodes.Client c)).0 own.site.node.state.associations → ⊥
    is_held node at e same u =
        let l : Lasting k count w all f.server.0 node at c.0 = lasting k count w all f.server.0 node at c.0 lasting_there in
        let b : l.association ≡ a =
        Words.Lookups.some_is (sym l.found ∙ (ap (association_at f.server) own.there ∙ own.found)) in
        let two = subst (λ (x : net.Client). 2 ≤ (x.held own.page.ino).mode) l.seen
        (dirty_mode k count w all f.server.0 node at c.0 l own.page (subst (λ (x : Association). Has own.page x.store.pages.dirty) (sym b) own.dirty)) in
        let its : 2 ≤ (held_in a.session own.page.ino).mode = subst (λ (x : Association). 2 ≤ (held_in x.session own.page.ino).mode) b two in
        let i = eqb-true own.page.ino f.ino (and_true (own.page.ino == f.ino) (same_page own.page.page p) own.is).0 in
        let none : (held_in a.session f.ino).mode ≡ 0 =
        unheld_at f own.site.node.state.config.lease (clock_of w (nodes.Client c)).0 own.site.node.state.associations a
        (subst (λ (x : FileId). Unheld x own.site.node.state.config.lease (clock_of w (nodes.Client c)).0 own.site.node.state.associations) same u) listed.1
        lasts_here (sym of_server) in
        no (subst (λ (n : ℕ). 2 ≤ (held_in a.session n).mode) i its) none
      where
        no : {n : ℕ} → 2 ≤ n → n ≡ 0 → ⊥
        no l q = omega (arith, l, q)

    -- What is pending of the file is its own.
    only_own : (node : ServerNode) → node_of w f.server ≡ Some node → (e : LogEntry) → Has e w.log → is_pending e.fate ≡ true → e.of.file ≡ f →
        e.of.client ≡ c
    only_own node at e logged open_ same = go (Words.Tables.same_or_not e.of.client.0 c.0)
      where
        go : (e.of.client.0 ≡ c.0) ⊎ (Words.◌≢◌ e.of.client.0 c.0) → e.of.client ≡ c
        go (inl q) = ap (λ n. record { 0 = n }) q
        go (inr n) =
            absurd
            (is_held node at e same
            (frozen e logged open_
            (λ d other b running has life.
            no_other k count past w all flush c f (client_there w c own.site own.there) (or_left (holds w c f) (has_row w c f) held_there) d other running b has e
            logged open_ life same
            (λ q. n (sym
            (eqb-true d e.of.client.0 (eq-eqb d e.of.client.0 (sym (eqb-true e.of.client.0 d (and_true (same_client e.of.client (client d)) _ life).0))))
            ∙ ap (λ (x : ClientId). x.0) q)))
            c.0 own.site (record { there = own.there; runs = own.runs })))

    finds : (node : ServerNode) → node_of w f.server ≡ Some node → node.state.id ≡ f.server → FindsFile w c f
    finds node at id = record { node = node; there = at; file = file_there node at id; own = only_own node at }

    pub finds_file : ((s : ServerId) (node : ServerNode) → node_of w s ≡ Some node → node.state.id ≡ s) → FindsFile w c f
    finds_file ids = finds node_there.0 node_there.1 (ids f.server node_there.0 node_there.1)

  line_finds : ((s : ServerId) (node : ServerNode) → node_of w s ≡ Some node → node.state.id ≡ s) → (o : Observation) → is_change_locked w o ≡ true →
      LineFinds w o
  line_finds ids (seen.Wrote i c f p bytes) h = finds_file c f p h ids
  line_finds ids (seen.Patched i c f p at bytes) h = finds_file c f p h ids
  line_finds ids (seen.CutAt i f p) h = tt
  line_finds ids (seen.Hardened i) h = tt
  line_finds ids (seen.Dropped i cause) h = tt
  line_finds ids (seen.Answered c op answer) h = tt
  line_finds ids (seen.Sent k m) h = tt
  line_finds ids (seen.Submitted k c number what) h = tt
  line_finds ids (seen.Leased c s end) h = tt
  line_finds ids (seen.Lost c s life) h = tt
  line_finds ids (seen.Suspected s c start) h = tt
  line_finds ids (seen.Stolen s c life) h = tt

-- In every run.
record Stood (k : net.Config) (count : ℕ) (past : List Step) (t : Traced) : Type 0 where
  places : PlacesHold t.world
  stand : Stand past t
  frozen_lives : FrozenHold k count t.world

abbrev Owed : Promise
Owed past x =
    PlacesAfter past x × (KnownAfter past x × (ChangesAreLocked past x × (MappedFilesExist past x × PagesAfter past x)))

one_finds : (k : net.Config) (count : ℕ) (past : List Step) (t : Traced) (e : Event) (sc : WorldTurn) → is_event count e ≡ true → Stood k count past t →
    world_step t.world e ≡ Ok sc → Owed past (step t e sc) →
    ChangesFindTheirFiles past (step t e sc) × Stood k count (past ++ step t e sc ∷ []) (traced_after e t sc)
one_finds k count past t e sc in_range s taken g =
    let x : Step = step t e sc in
    let stand : Stand (past ++ x ∷ []) (traced_after e t sc) = (one_step past t e sc taken s.places s.stand).stand in
    let frozen : FrozenHold k count sc.world =
    events_keep past k count t.world e sc s.frozen_lives s.stand.both.flush (full count t.world e s.frozen_lives.all.nodes in_range) taken in (
      λ o i.
          line_finds k count (past ++ x ∷ []) sc.world frozen.all (alone (past ++ x ∷ []) k count sc.world frozen stand.both.flush) stand.both.flush g.1.0
          g.1.1.1.0 g.1.1.1.1.extents.ids o (each_passes (is_change_locked sc.world) sc.seen g.1.1.0 o i),
      record { places = g.0; stand = stand; frozen_lives = frozen },
    )

pub changes_find_their_files : EveryRunIsSafe → InEveryRun ChangesFindTheirFiles
changes_find_their_files safe k clients servers disks blocks form es head events =
    let t : Traced = traced (fresh_world k clients servers disks blocks form) in
    let kept : IsSafeRun (fresh_world k clients servers disks blocks form) es = safe k clients servers disks blocks form es head events in
    throughout_under (clients + servers) Owed ChangesFindTheirFiles (Stood (terms_of k) (clients + servers)) (one_finds (terms_of k) (clients + servers)) es
    events
    [] t
    (record {
      places = fresh_places k clients servers disks blocks form;
      stand = fresh_stand k clients servers disks blocks form;
      frozen_lives = first k clients servers disks blocks form head;
    })
    (throughout_both PlacesAfter
    (λ past x. KnownAfter past x × (ChangesAreLocked past x × (MappedFilesExist past x × PagesAfter past x))) [] (steps es t)
    (places_law k clients servers disks blocks form es head)
    (throughout_both KnownAfter (λ past x. ChangesAreLocked past x × (MappedFilesExist past x × PagesAfter past x)) []
    (steps es t) (known k clients servers disks blocks form es head events)
    (throughout_both ChangesAreLocked (λ past x. MappedFilesExist past x × PagesAfter past x) [] (steps es t) kept.locked
    (throughout_both MappedFilesExist PagesAfter [] (steps es t) (mapped_files_exist k clients servers disks blocks form es head events)
    (pages_after k clients servers disks blocks form es head events)))))
