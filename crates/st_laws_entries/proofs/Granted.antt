-- In every run each entry joins the log under a number that its file's server granted: a lock that a client has, and a row of a server, have the owners of
-- their numbers, and each number with an owner was sent to it.
use Rattle.st_lemmas.proofs.Words
use Words.{◌≡◌, ℕ, ◌+◌, ◌≤◌, Bool, true, false, ◌||◌, ◌==◌, List, [], ◌∷◌, ◌++◌, Option, Some, None, Ok, refl, sym, ap, ◌∙◌, subst, arith}
use Words.{if◌then◌else◌, find, option_map, list_any, eqb-true, le-leb, ClientId, FileId, GrantNo, PageNo, ServerId, Mode, Event, Message, HeldLock}
use Words.{LockRow, Observation, DirtyPage}
use Words.bodies
use Words.nodes
use Words.seen
use Words.Client as cl
use Words.ClientLocks.{is_lock_on, lock_of}
use Words.ClientPages.{is_dirty_of}
use Words.ClientState.{Association, is_at}
use Words.Events.{WorldTurn, counted, world_step}
use Words.Extents.{numbers}
use Words.History.{Traced, association_at, association_of, grant_of_lock, grant_of_row, grant_or_zero, is_exclusive_on, is_exclusive_row, lock_grant, locks_at}
use Words.History.{locks_of_session, row_grant, rows_at, traced, traced_after}
use Words.Keys.{client, server_node}
use Words.Safety.{IsHead, Step, cuts_under, has_dirty_page, has_exclusive, is_before, is_change_locked, is_event, lasts, lasts_at, step}
use Words.Server as server
use Words.Server.{ServerNode}
use Words.World.{World, WorldClient, clock_of, fresh_site, fresh_world, node_at_start, node_of, site_of}
use Words.World as worlds
use Words.Lists.{Has}
use Words.Lookups.{some_is}
use Words.Tables.{and_both, and_true, found_at, each_passes, has_map}
use Words.Lengths.{numbered_there}
use Words.Members.{some_member_passes}
use Rattle.st_base.specs.declared.config.Config as base
use Rattle.st_base.specs.Mode.{number_of}
use Rattle.st_protocol.specs.Assoc.{Client, Config, Lock}
use Rattle.st_lemmas.proofs.Steps.{step_happens}
use Rattle.st_laws_refine.specs.Client.Invariants.{Kept}
use Rattle.st_laws_refine.specs.Server.Pair.{client_in, terms_of}
use Rattle.st_laws_refine.specs.Views.Halves.{held_at, held_in}
use Rattle.st_laws_pages.specs.LockedCuts.CutLocks.{WaitsHold}
use Rattle.st_laws_pages.proofs.Disks.Whole.{fresh_waits}
use Rattle.st_laws_pages.proofs.Lives.Fresh.{fresh_is}
use Rattle.st_laws_pages.proofs.LockedCuts.CutLaw.{steps_lock_cuts as cut_law}
use Rattle.st_laws_leases.specs.Dates.Dates.{messages}
use Rattle.st_laws_leases.specs.Sides.Law.{InEveryRun}
use Rattle.st_laws_leases.specs.Sides.World.{AllStand}
use Rattle.st_laws_leases.proofs.Sides.DirtyPages.{Lasting, dirty_mode, lasting}
use Rattle.st_laws_leases.proofs.Sides.Known.{fresh_known}
use Rattle.st_laws_leases.proofs.Sides.Locked.{ServersKnown, Written, both_locked, happens_written}
use Rattle.st_laws_leases.proofs.Sides.Runs.{throughout_events}
use Rattle.st_laws_leases.proofs.Sides.Waiting.{waits_owed}
use Rattle.st_laws_extents.proofs.CutRequests.Law.{Hold, first, owed, same_all}
use Rattle.st_laws_grants.specs.Owners.{AllGiveOnce, GivesOnce, Side, StateOk, WasSent}
use Rattle.st_laws_grants.proofs.Nets.{granted_owned}
use Rattle.st_laws_grants.proofs.World.{goes_on}
use Rattle.st_laws_entries.specs.EntryGrants.{EntriesAreGranted, EntryIsGranted, WasGranted}

-- the member that a list has
any_found : {A : Type 0} (p : A → Bool) (xs : List A) → list_any p xs ≡ true → (x : A) × (find p xs ≡ Some x)
any_found p [] e = cc
any_found {A} p (x ∷ xs) e = go (p x) e (any_found p xs)
  where
    go : (b : Bool) → (b || list_any p xs) ≡ true → (list_any p xs ≡ true → (y : A) × (find p xs ≡ Some y)) → (y : A) × ((if b then Some x else find p xs) ≡ Some y)
    go true e k = (x, refl)
    go false e k = k e

-- the first that passes is the first that passes a stricter test, if it passes that one
first_too : {A : Type 0} (p q : A → Bool) → ((x : A) → q x ≡ true → p x ≡ true) → (xs : List A) (y : A) → find p xs ≡ Some y → q y ≡ true → find q xs ≡ Some y
first_too p q f [] y e t = cc
first_too {A} p q f (x ∷ xs) y e t = go (p x) (q x) refl refl e (first_too p q f xs y)
  where
    go : (a b : Bool) → p x ≡ a → q x ≡ b → (if a then Some x else find p xs) ≡ Some y → (find p xs ≡ Some y → q y ≡ true → find q xs ≡ Some y) →
        (if b then Some x else find q xs) ≡ Some y
    go true true g h e k = e
    go true false g h e k = let z = sym t ∙ ap q (sym (some_is e)) ∙ h in cc z
    go false true g h e k = let z = sym (f x h) ∙ g in cc z
    go false false g h e k = k e t

-- In a world in which grant numbers have owners.
module _ (k : Config) (count : ℕ) (w : World) (all : AllStand k count w) (g : AllGiveOnce w) (known : ServersKnown w) where
  -- a number that has an owner was sent to it
  module _ (s : ServerId) (node : ServerNode) (at : node_of w s ≡ Some node) where
    owned : (m : Message) → Has m (messages w) → m.header.from ≡ server_node s → (ino : ℕ) (n : GrantNo) (mode : Mode) → m.body ≡ bodies.Granted ino n mode →
        (g s node at).owner n.0 ≡ Some (m.header.to, ino)
    owned m h from ino n mode e =
        let q = (g s node at).pairs m.header.to in granted_owned (g s node at).owner m.header.to m q.net ino n mode e q.tells (q.shows m h from refl)

    sent : (c ino : ℕ) (n : GrantNo) → (g s node at).owner n.0 ≡ Some (c, ino) → WasGranted w (client c) (record { server = s; ino = ino }) n
    sent c ino n o = by ((g s node at).told n.0 (c, ino) o)
      where
        by : WasSent s (messages w) n.0 → WasGranted w (client c) (record { server = s; ino = ino }) n
        by z =
            record {
              message = z.message;
              among = z.among;
              from = z.from;
              to = ap (λ (p : ℕ × ℕ). p.0) same;
              mode = z.mode;
              body = z.body ∙ ap (λ i. bodies.Granted i n z.mode) (ap (λ (p : ℕ × ℕ). p.1) same);
            }
          where
            same : ◌≡◌ {A = ℕ × ℕ} (z.message.header.to, z.ino) (c, ino)
            same = some_is (sym (owned z.message z.among z.from z.ino n z.mode z.body) ∙ o)

  -- the server of a lease that lasts is there
  there : (c : ClientId) (s : ServerId) → lasts w c s ≡ true → (node : ServerNode) × (node_of w (worlds.server s.0) ≡ Some node)
  there c s h = go (site_of w c) refl h
    where
      by : (site : WorldClient) → site_of w c ≡ Some site → (o : Option Association) → cl.association_with site.node.state s ≡ o →
          is_before (clock_of w (nodes.Client c)) (Rattle.st_rules.specs.ClientLease.end_at site.node.state.config (cl.lease_at o)) ≡ true →
          (node : ServerNode) × (node_of w (worlds.server s.0) ≡ Some node)
      by site e None f b = cc
      by site e (Some a) f b =
          let z = found_at (is_at s) site.node.state.associations a f in
          let y = known c.0 site e a z.1 in
          let l = y.0 in
          let u = y.1 in
          let x = eqb-true a.server.0 s.0 z.0 in
          numbered_there w.servers s.0 (omega (arith, l, x)) (omega (arith, u, x))

      go : (o : Option WorldClient) → site_of w c ≡ o → lasts_at (clock_of w (nodes.Client c)) s o ≡ true → (node : ServerNode) × (node_of w (worlds.server s.0) ≡ Some node)
      go None e b = cc
      go (Some site) e b = by site e (cl.association_with site.node.state s) refl (and_true site.node.running _ b).1

  -- an association that a world has is one of its client's
  record OfSite (c : ClientId) (s : ServerId) (a : Association) : Type 0 where
    site : WorldClient
    is : site_of w c ≡ Some site
    among : Has a site.node.state.associations
    same : a.server.0 ≡ s.0

  of_site : (c : ClientId) (s : ServerId) (a : Association) → association_of w c s ≡ Some a → OfSite c s a
  of_site c s a e = go (site_of w c) refl e
    where
      go : (o : Option WorldClient) → site_of w c ≡ o → association_at s o ≡ Some a → OfSite c s a
      go None q e = cc
      go (Some site) q e =
          let z = found_at (is_at s) site.node.state.associations a e in
          record { site = site; is = q; among = z.1; same = eqb-true a.server.0 s.0 z.0 }

  -- a write or a patch
  lock_is : (rows : List HeldLock) (i : ℕ) (x : Option HeldLock) → find (is_lock_on i) rows ≡ x → 2 ≤ (held_at x).mode →
      (grant_or_zero (option_map grant_of_lock (find (is_exclusive_on i) rows))).0 ≡ (held_at x).g
  lock_is rows i None e t = absurd (omega (arith, t))
  lock_is rows i (Some x) e t =
      ap (λ y. (grant_or_zero (option_map grant_of_lock y)).0)
      (first_too (is_lock_on i) (is_exclusive_on i) (λ y h. (and_true (is_lock_on i y) _ h).0) rows x e
      (and_both _ _ (found_at (is_lock_on i) rows x e).0 (le-leb 2 (number_of x.mode) t)))

  written_at : (c : ClientId) (f : FileId) (p : PageNo) (node : ServerNode) (at : node_of w (worlds.server f.server.0) ≡ Some node) →
      Lasting k count w all f.server.0 node at c.0 → has_dirty_page f.ino p (association_of w c f.server) ≡ true → WasGranted w c f (lock_grant w c f)
  written_at c f p node at l dirty = sent f.server node at c.0 f.ino (lock_grant w c f) number
    where
      half : Client
      half = client_in w c.0 f.server.0 ((all.servers f.server.0 node at).ended c.0)

      page : (d : DirtyPage) × Has d l.association.store.pages.dirty × (is_dirty_of f.ino p d ≡ true)
      page = some_member_passes (is_dirty_of f.ino p) l.association.store.pages.dirty (ap (has_dirty_page f.ino p) (sym l.found) ∙ dirty)

      two : 2 ≤ (half.held f.ino).mode
      two = subst (λ i. 2 ≤ (half.held i).mode) (eqb-true page.0.ino f.ino (and_true (page.0.ino == f.ino) _ page.2).0)
          (dirty_mode k count w all f.server.0 node at c.0 l page.0 page.1)

      held_is : half.held f.ino ≡ held_in l.association.session f.ino
      held_is = ap (λ (x : Client). x.held f.ino) l.seen

      in_session : held_in l.association.session f.ino ≡ held_at (lock_of l.session.locks f.ino)
      in_session = ap (λ x. held_in x f.ino) l.is

      grant_is : (lock_grant w c f).0 ≡ (held_in l.association.session f.ino).g
      grant_is =
          ap (λ a. (grant_or_zero (option_map grant_of_lock (find (is_exclusive_on f.ino) (locks_at a)))).0) l.found
          ∙ ap (λ x. (grant_or_zero (option_map grant_of_lock (find (is_exclusive_on f.ino) (locks_of_session x)))).0) l.is
          ∙ lock_is l.session.locks.rows f.ino (lock_of l.session.locks f.ino) refl
          (let z = ap (λ (x : Lock). x.mode) held_is in let y = ap (λ (x : Lock). x.mode) in_session in let t = two in omega (arith, z, y, t))
          ∙ sym (ap (λ (x : Lock). x.g) in_session)

      z : OfSite c f.server l.association
      z = of_site c f.server l.association l.found

      side : Side (g f.server node at).owner c.0 l.association ((g f.server node at).pairs c.0).net
      side = ((g f.server node at).pairs c.0).side z.site z.is l.association z.among (ap (λ n. worlds.server n) z.same)

      number : (g f.server node at).owner (lock_grant w c f).0 ≡ Some (c.0, f.ino)
      number =
          ap (g f.server node at).owner grant_is
          ∙ side.held f.ino (let q = ap (λ (x : Lock). x.mode) held_is in let t = two in omega (arith, q, t))

  written : (c : ClientId) (f : FileId) (p : PageNo) → lasts w c f.server ≡ true → has_dirty_page f.ino p (association_of w c f.server) ≡ true →
      WasGranted w c f (lock_grant w c f)
  written c f p last dirty = let n = there c f.server last in written_at c f p n.0 n.1 (lasting k count w all f.server.0 n.0 n.1 c.0 last) dirty

  -- a cut
  cut_at : (f : FileId) (node : ServerNode) (at : node_of w f.server ≡ Some node) → node.running ≡ true → (r : LockRow) →
      find (is_exclusive_row f.ino) node.state.locks.rows ≡ Some r → (c : ClientId) × WasGranted w c f (row_grant w f)
  cut_at f node at runs r e = (r.client, sent f.server node at r.client.0 f.ino (row_grant w f) number)
    where
      found : (is_exclusive_row f.ino r ≡ true) × Has r node.state.locks.rows
      found = found_at (is_exclusive_row f.ino) node.state.locks.rows r e

      same : (row_grant w f).0 ≡ r.g.0
      same =
          ap (λ y. (grant_or_zero (option_map grant_of_row (find (is_exclusive_row f.ino) (rows_at y)))).0) at
          ∙ ap (λ y. (grant_or_zero (option_map grant_of_row y)).0) e

      state : StateOk (g f.server node at).owner true node.state
      state = subst (λ b. StateOk (g f.server node at).owner b node.state) runs (g f.server node at).state

      number : (g f.server node at).owner (row_grant w f).0 ≡ Some (r.client.0, f.ino)
      number =
          ap (g f.server node at).owner same ∙ state.0.rows r found.1
          ∙ ap (λ i. Some (r.client.0, i)) (eqb-true r.ino f.ino (and_true (r.ino == f.ino) _ found.0).0)

  was_cut : (f : FileId) → cuts_under f.ino (node_of w f.server) ≡ true → (c : ClientId) × WasGranted w c f (row_grant w f)
  was_cut f h = go (node_of w f.server) refl h
    where
      go : (o : Option ServerNode) → node_of w f.server ≡ o → cuts_under f.ino o ≡ true → (c : ClientId) × WasGranted w c f (row_grant w f)
      go None q e = cc
      go (Some node) q e =
          let z = and_true node.running _ e in
          let r = any_found (is_exclusive_row f.ino) node.state.locks.rows z.1 in
          cut_at f node q z.0 r.0 r.1

  entry : (o : Observation) → is_change_locked w o ≡ true → EntryIsGranted w o
  entry (seen.Wrote index c f p bytes) e =
      let x = and_true (lasts w c f.server) _ e in written c f p x.0 (and_true (has_exclusive f.ino (association_of w c f.server)) _ x.1).1
  entry (seen.Patched index c f p at bytes) e =
      let x = and_true (lasts w c f.server) _ e in written c f p x.0 (and_true (has_exclusive f.ino (association_of w c f.server)) _ x.1).1
  entry (seen.CutAt index f p) e = was_cut f e
  entry o e = tt

-- What holds after every event.
record Stand (k : Config) (count : ℕ) (past : List Step) (t : Traced) : Type 0 where
  base : Hold k count past t
  gives : AllGiveOnce t.world
  waits : WaitsHold t.world
  known : ServersKnown t.world

one : (k : Config) (count : ℕ) (past : List Step) (t : Traced) (e : Event) (sc : WorldTurn) → is_event count e ≡ true → Stand k count past t →
    world_step t.world e ≡ Ok sc → EntriesAreGranted past (step t e sc) × Stand k count (past ++ step t e sc ∷ []) (traced_after e t sc)
one k count past t e sc r h taken =
    let p = step_happens t.world e sc taken in
    let base : Hold k count (past ++ step t e sc ∷ []) (traced_after e t sc) = (same_all k count past t e sc r h.base taken).0 in
    let gives : AllGiveOnce sc.world = (goes_on k count t.world h.base.all h.gives (λ s n at. (h.base.cuts.servers s n at).id) e sc (owed k count past t e sc r h.base taken) taken).0 in
    let cut = cut_law t.world e sc taken (waits_owed k count t.world h.base.all e p.0) h.waits in
    let lives = h.base.all.fates.lives in
    let written : Written k count sc =
    subst (Written k count) (sym p.1) (happens_written k count (counted t.world) e (record { lives = lives.lives; known = lives.known }) h.known) in (
      λ o i. entry k count sc.world base.all gives written.known o (each_passes (is_change_locked sc.world) sc.seen (both_locked sc.world sc.seen cut.locked (written.locked base.all)) o i),
      record { base = base; gives = gives; waits = cut.holds; known = written.known },
    )

-- The start.
begins : (k : base.Config) (clients servers disks blocks form : ℕ) → IsHead k clients servers disks blocks form →
    Stand (terms_of k) (clients + servers) [] (traced (fresh_world k clients servers disks blocks form))
unfolding fresh_world cl.fresh_client server.fresh_server
begins k clients servers disks blocks form head =
    record {
      base = first k clients servers disks blocks form head;
      gives = gives;
      waits = fresh_waits k clients servers disks blocks form;
      known = fresh_known k clients servers disks blocks form;
    }
  where
    w : World
    w = fresh_world k clients servers disks blocks form

    none : {A B : Type 0} {x : A} → ◌≡◌ {A = Option A} None (Some x) → B
    none e = cc

    empty : (c : ℕ) (a : Association) → a.session ≡ None → Side (λ n. None) c a []
    empty c a e =
        record {
          kept = subst (λ x. Kept a.life.0 a.store x []) (sym e) tt;
          held = λ i l. absurd (let y = ap (λ x. (held_in x i).mode) e in omega (arith, l, y));
        }

    fresh : (s : ServerId) → GivesOnce w s (node_at_start k servers disks blocks s.0)
    fresh s =
        record {
          owner = λ n. None;
          state = (record { low = λ n y e. none e; rows = λ r h. absurd h }, λ c x e. none e);
          told = λ n y e. none e;
          pairs = λ c. record {
            net = [];
            tells = λ m h. absurd h;
            shows = λ m h from to. absurd h;
            receives = λ m h to of from. absurd h;
            side = λ site e a i here. empty c a (session site (fresh_is (fresh_site k servers) clients c site e) a i);
          };
        }
      where
        session : {c : ℕ} (site : WorldClient) → site ≡ fresh_site k servers c → (a : Association) → Has a site.node.state.associations → a.session ≡ None
        session {c} site e a i =
            let z = has_map cl.fresh_association (numbers 1 servers) a (subst (λ (y : WorldClient). Has a y.node.state.associations) e i) in
            ap (λ (y : Association). y.session) z.2

    gives : AllGiveOnce w
    gives s node e = subst (GivesOnce w s) (sym (fresh_is (node_at_start k servers disks blocks) servers s.0 node e)) (fresh s)

pub granted_law : InEveryRun EntriesAreGranted
granted_law k clients servers disks blocks form es head events =
    throughout_events (clients + servers) EntriesAreGranted (Stand (terms_of k) (clients + servers))
    (λ past t e sc r h taken. one (terms_of k) (clients + servers) past t e sc r h taken) es events []
    (traced (fresh_world k clients servers disks blocks form)) (begins k clients servers disks blocks form head)
