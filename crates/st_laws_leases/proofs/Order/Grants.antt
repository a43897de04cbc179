-- The grants of a history never fall: each new one is that of an exclusive lock, or of an exclusive row, of the world after the event.
use Rattle.st_lemmas.proofs.Words
use Words.{◌≡◌, ◌≢◌, ℕ, ◌+◌, ◌≤◌, ◌⊎◌, Bool, true, false, not, ◌||◌, ◌==◌, List, [], ◌∷◌, ◌++◌, Option, Some, None, Ok, refl, sym, ap, ◌∙◌, subst, inl, inr}
use Words.{arith, if◌then◌else◌, find, nat_le, option_map, list_all, list_any, eqb-true, le-leb, leb-true, ClientId, FileId, GrantNo, PageNo, ServerId, Event}
use Words.{HeldLock, LockRow, Observation, DirtyPage}
use Words.nodes
use Words.events
use Words.seen
use Words.Client as cl
use Words.ClientLocks.{is_lock_on, lock_of}
use Words.ClientPages.{is_dirty_of}
use Words.ClientState.{Association, is_at}
use Words.Events.{WorldTurn, counted, world_step}
use Words.History.{EntryGrant, History, Traced, association_of, grant_of_lock, grant_of_row, grant_or_zero, is_exclusive_on, is_exclusive_row, lock_grant}
use Words.History.{locks_at, locks_of_session, recall, recall_all, remember, row_grant, rows_at, traced, traced_after}
use Words.Keys.{client, same_file}
use Words.Locks.{row_of}
use Words.ServerInvariants.{are_once, same_row}
use Words.Safety.{ChangesGoInTheOrderOfLocks, IsHead, Step, cuts_under, has_dirty_page, has_exclusive, is_before, is_change_locked, is_event, is_no_lesser}
use Words.Safety.{lasts, lasts_at, never_fall, step}
use Words.Server.{ServerNode}
use Words.World.{World, WorldClient, clock_of, fresh_world, node_of, server, site_of}
use Words.Lists.{Has}
use Words.Lookups.{some_is}
use Words.Tables.{and_both, and_true, found_at, has_append}
use Words.Lengths.{numbered_there}
use Words.Members.{some_member_passes}
use Words.Tests.{all_last}
use Words.Worlds.{remembered_grants}
use Rattle.st_base.specs.declared.config.Config as base
use Rattle.st_base.specs.Mode.{number_of}
use Rattle.st_protocol.specs.Assoc.{Alive, Client, Config, ConfigOk, Lock, Row, upd}
use Rattle.st_protocol.proofs.Lists.{upd_tells, upd-same}
use Rattle.st_lemmas.proofs.Steps.{step_happens}
use Rattle.st_laws_refine.specs.Views.Halves.{held_at, held_in, row_or, row_view}
use Rattle.st_laws_pages.specs.LockedCuts.CutLocks.{WaitsHold, is_cut_locked}
use Rattle.st_laws_pages.proofs.LockedCuts.CutLaw.{steps_lock_cuts as cut_law}
use Rattle.st_laws_pages.proofs.Disks.Whole.{fresh_waits}
use Rattle.st_laws_refine.specs.Server.Pair.{client_in, terms_of}
use Rattle.st_laws_refine.proofs.Server.OneRow.{row_found}
use Rattle.st_laws_leases.specs.Sides.Law.{InEveryRun}
use Rattle.st_laws_leases.specs.Sides.World.{AllStand}
use Rattle.st_laws_leases.proofs.Sides.DirtyPages.{Lasting, dirty_mode, lasting}
use Rattle.st_laws_leases.proofs.Sides.FirstWorld.{begun}
use Rattle.st_laws_leases.proofs.Sides.Known.{fresh_known}
use Rattle.st_laws_leases.proofs.Sides.Locked.{ServersKnown, Written, both_locked, happens_written}
use Rattle.st_laws_leases.proofs.Sides.Runs.{full, throughout_events}
use Rattle.st_laws_leases.proofs.Sides.Waiting.{waits_owed}
use Rattle.st_laws_leases.specs.Order.Paths.{Ordered, OrderedServer}
use Rattle.st_laws_leases.proofs.Order.Everywhere.{stays_ordered}
use Rattle.st_laws_leases.proofs.Order.Tops.{change, cut_row}
use Rattle.st_trace.proofs.Server.Taking.{clash}

any_found : {A : Type 0} (p : A → Bool) (xs : List A) → list_any p xs ≡ true → (x : A) × (find p xs ≡ Some x)
any_found p [] e = cc
any_found {A} p (x ∷ xs) e = go (p x) e (any_found p xs)
  where
    go : (b : Bool) → (b || list_any p xs) ≡ true → (list_any p xs ≡ true → (y : A) × (find p xs ≡ Some y)) → (y : A) × ((if b then Some x else find p xs) ≡ Some y)
    go true e k = (x, refl)
    go false e k = k e

-- the first that passes is the first that passes a stricter test, if it passes that one
first_too : {A : Type 0} (p q : A → Bool) → ((x : A) → q x ≡ true → p x ≡ true) → (xs : List A) (y : A) → find p xs ≡ Some y → q y ≡ true → find q xs ≡ Some y
first_too p q f [] y e t = cc
first_too {A} p q f (x ∷ xs) y e t = go (p x) (q x) refl refl e (first_too p q f xs y)
  where
    go : (a b : Bool) → p x ≡ a → q x ≡ b → (if a then Some x else find p xs) ≡ Some y → (find p xs ≡ Some y → q y ≡ true → find q xs ≡ Some y) → (if b then Some x else find q xs) ≡ Some y
    go true true g h e k = e
    go true false g h e k = absurd (clash t (ap q (sym (some_is e)) ∙ h))
    go false true g h e k = absurd (clash (f x h) g)
    go false false g h e k = k e t

-- one more grant that is no lesser than those of its file
never_last : (es : List EntryGrant) (x : EntryGrant) → never_fall es ≡ true → ((e : EntryGrant) → Has e es → is_no_lesser e x ≡ true) → never_fall (es ++ x ∷ []) ≡ true
unfolding never_fall
never_last [] x n f = refl
never_last (e ∷ es) x n f = let z = and_true (list_all (is_no_lesser e) es) (never_fall es) n in and_both _ _ (all_last (is_no_lesser e) es x z.0 (f e (inl refl))) (never_last es x z.1 (λ y h. f y (inr h)))

-- What holds of the grants of a history in a world: they never fall, and none is above an exclusive lock that a client has of its file, or may come to have
-- without a new grant.
pub record GrantsStand (k : Config) (count : ℕ) (v : World) (grants : List EntryGrant) : Type 0 where
  pub numbers : ℕ → ℕ → ℕ
  pub ordered : Ordered k count v numbers
  pub under : (e : EntryGrant) → Has e grants → e.g.0 ≤ numbers e.file.server.0 e.file.ino
  pub falls : never_fall grants ≡ true

-- A server's associations with one more change, and with one more cut.
server_change : (k : Config) → ConfigOk k → (v : World) (s : ℕ) (node : ServerNode) (H : ℕ → ℕ) (o : OrderedServer k v s node H) (c i : ℕ) → Alive k (client_in v c s (o.stands.ended c)) → 2 ≤ ((client_in v c s (o.stands.ended c)).held i).mode →
    (x : ℕ) → x ≡ ((client_in v c s (o.stands.ended c)).held i).g → (H i ≤ x) × OrderedServer k v s node (upd H i x)
server_change k ok v s node H o c i al two x e = (let z = (o.below c).held al i two in omega (arith, z, e), subst (λ g. OrderedServer k v s node (upd H i g)) (sym e) (change k ok v s node H o c i al two))

abbrev RowAt : ServerNode → ℕ → ℕ → Row
RowAt node c i = row_or (row_view (row_of node.state.locks (client c) i))

server_cut : (k : Config) → ConfigOk k → (v : World) (s : ℕ) (node : ServerNode) (H : ℕ → ℕ) (o : OrderedServer k v s node H) (c i : ℕ) → 2 ≤ (RowAt node c i).mode →
    (x : ℕ) → x ≡ (RowAt node c i).g → (H i ≤ x) × OrderedServer k v s node (upd H i x)
server_cut k ok v s node H o c i two x e = (let z = (o.below c).rows i two in omega (arith, z, e), subst (λ g. OrderedServer k v s node (upd H i g)) (sym e) (cut_row k ok v s node H o c i two))

-- the exclusive row that is found is its client's
record RowThere (node : ServerNode) (i : ℕ) (r : LockRow) : Type 0 where
  two : 2 ≤ (RowAt node r.client.0 i).mode
  g : r.g.0 ≡ (RowAt node r.client.0 i).g

row_there : (node : ServerNode) → are_once same_row node.state.locks.rows ≡ true → (i : ℕ) (r : LockRow) → find (is_exclusive_row i) node.state.locks.rows ≡ Some r → RowThere node i r
row_there node once i r e = record { two = let y = leb-true 2 (number_of r.mode) (and_true (r.ino == i) _ is.0).1 in let z = ap (λ x. (row_or (row_view x)).mode) there in omega (arith, z, y); g = sym (ap (λ x. (row_or (row_view x)).g) there) }
  where
    is : (is_exclusive_row i r ≡ true) × Has r node.state.locks.rows
    is = found_at (is_exclusive_row i) node.state.locks.rows r e

    there : row_of node.state.locks (client r.client.0) i ≡ Some r
    there = subst (λ n. row_of node.state.locks (client r.client.0) n ≡ Some r) (eqb-true r.ino i (and_true (r.ino == i) _ is.0).0) (row_found node.state.locks once r is.1)

-- a server that runs and has an exclusive row
under_is : (x : Option ServerNode) (i : ℕ) → cuts_under i x ≡ true → (node : ServerNode) × (x ≡ Some node) × (list_any (is_exclusive_row i) node.state.locks.rows ≡ true)
under_is None i e = cc
under_is (Some node) i e = (node, refl, (and_true node.running _ e).1)

row_is : (x : Option ServerNode) (node : ServerNode) → x ≡ Some node → (i : ℕ) (r : LockRow) → find (is_exclusive_row i) node.state.locks.rows ≡ Some r → (grant_or_zero (option_map grant_of_row (find (is_exclusive_row i) (rows_at x)))).0 ≡ r.g.0
row_is x node e i r f = ap (λ y. (grant_or_zero (option_map grant_of_row (find (is_exclusive_row i) (rows_at y)))).0) e ∙ ap (λ y. (grant_or_zero (option_map grant_of_row y)).0) f

module _ (k : Config) (count : ℕ) (v : World) where
  -- one more grant
  one_more : (es : List EntryGrant) (q : GrantsStand k count v es) (f : FileId) (g : GrantNo) → q.numbers f.server.0 f.ino ≤ g.0 →
      ((node : ServerNode) → node_of v (server f.server.0) ≡ Some node → OrderedServer k v f.server.0 node (upd (q.numbers f.server.0) f.ino g.0)) → GrantsStand k count v (es ++ record { file = f; g = g } ∷ [])
  one_more es q f g le own = record { numbers = H2; ordered = record { all = q.ordered.all; servers = servers }; under = λ e h. under e (has_append es (new ∷ []) e h); falls = never_last es new q.falls no_lesser }
    where
      H : ℕ → ℕ → ℕ
      H = q.numbers

      s : ℕ
      s = f.server.0

      H2 : ℕ → ℕ → ℕ
      H2 = upd q.numbers f.server.0 (upd (q.numbers f.server.0) f.ino g.0)

      new : EntryGrant
      new = record { file = f; g = g }

      servers : (t : ℕ) (node : ServerNode) → node_of v (server t) ≡ Some node → OrderedServer k v t node (upd q.numbers f.server.0 (upd (q.numbers f.server.0) f.ino g.0) t)
      servers t node at = go (upd_tells q.numbers f.server.0 (upd (q.numbers f.server.0) f.ino g.0) t)
        where
          go : ((t ≡ f.server.0) × (upd q.numbers f.server.0 (upd (q.numbers f.server.0) f.ino g.0) t ≡ upd (q.numbers f.server.0) f.ino g.0)) ⊎ ((t ≢ f.server.0) × (upd q.numbers f.server.0 (upd (q.numbers f.server.0) f.ino g.0) t ≡ q.numbers t)) →
              OrderedServer k v t node (upd q.numbers f.server.0 (upd (q.numbers f.server.0) f.ino g.0) t)
          go (inl (e, x)) = subst (λ h. OrderedServer k v t node h) (sym x) (subst (λ n. OrderedServer k v n node (upd (q.numbers f.server.0) f.ino g.0)) (sym e) (own node (subst (λ n. node_of v (server n) ≡ Some node) e at)))
          go (inr (n, x)) = subst (λ h. OrderedServer k v t node h) (sym x) (q.ordered.servers t node at)

      -- the number of a file is no lesser than before, and that of this file is the grant
      no_less : (t i : ℕ) → q.numbers t i ≤ upd q.numbers f.server.0 (upd (q.numbers f.server.0) f.ino g.0) t i
      no_less t i = go (upd_tells q.numbers f.server.0 (upd (q.numbers f.server.0) f.ino g.0) t)
        where
          at : ((i ≡ f.ino) × (upd (q.numbers f.server.0) f.ino g.0 i ≡ g.0)) ⊎ ((i ≢ f.ino) × (upd (q.numbers f.server.0) f.ino g.0 i ≡ q.numbers f.server.0 i)) → q.numbers f.server.0 i ≤ upd (q.numbers f.server.0) f.ino g.0 i
          at (inl (e, x)) = let z = ap (q.numbers f.server.0) e in omega (arith, z, x, le)
          at (inr (n, x)) = omega (arith, x)

          go : ((t ≡ f.server.0) × (upd q.numbers f.server.0 (upd (q.numbers f.server.0) f.ino g.0) t ≡ upd (q.numbers f.server.0) f.ino g.0)) ⊎ ((t ≢ f.server.0) × (upd q.numbers f.server.0 (upd (q.numbers f.server.0) f.ino g.0) t ≡ q.numbers t)) →
              q.numbers t i ≤ upd q.numbers f.server.0 (upd (q.numbers f.server.0) f.ino g.0) t i
          go (inl (e, x)) =
              let y = at (upd_tells (q.numbers f.server.0) f.ino g.0 i) in
              let a = ap (λ n. q.numbers n i) e in
              let b = ap (λ (h : ℕ → ℕ). h i) x in omega (arith, y, a, b)
          go (inr (n, x)) = let b = ap (λ (h : ℕ → ℕ). h i) x in omega (arith, b)

      its_number : upd q.numbers f.server.0 (upd (q.numbers f.server.0) f.ino g.0) f.server.0 f.ino ≡ g.0
      its_number = ap (λ (h : ℕ → ℕ). h f.ino) (upd-same q.numbers f.server.0 (upd (q.numbers f.server.0) f.ino g.0)) ∙ upd-same (q.numbers f.server.0) f.ino g.0

      under : (e : EntryGrant) → Has e es ⊎ Has e (record { file = f; g = g } ∷ []) → e.g.0 ≤ upd q.numbers f.server.0 (upd (q.numbers f.server.0) f.ino g.0) e.file.server.0 e.file.ino
      under e (inl h) = let a = q.under e h in let b = no_less e.file.server.0 e.file.ino in omega (arith, a, b)
      under e (inr (inl x)) = subst (λ (y : EntryGrant). y.g.0 ≤ upd q.numbers f.server.0 (upd (q.numbers f.server.0) f.ino g.0) y.file.server.0 y.file.ino) (sym x) (let z = its_number in omega (arith, z))
      under e (inr (inr i)) = absurd i

      no_lesser : (e : EntryGrant) → Has e es → is_no_lesser e (record { file = f; g = g }) ≡ true
      no_lesser e h = go (same_file f e.file) refl
        where
          go : (b : Bool) → same_file f e.file ≡ b → (not b || nat_le e.g.0 g.0) ≡ true
          go false x = refl
          go true x =
              let y = and_true (f.server.0 == e.file.server.0) _ x in
              let a = eqb-true f.server.0 e.file.server.0 y.0 in
              let b = eqb-true f.ino e.file.ino y.1 in
              let u = q.under e h in
              let m = ap (λ n. q.numbers n e.file.ino) a in
              let n = ap (λ i. q.numbers f.server.0 i) b in le-leb e.g.0 g.0 (omega (arith, u, m, n, le))

  -- A client's write or patch.
  module _ (known : ServersKnown v) (es : List EntryGrant) (q : GrantsStand k count v es) where
    -- everything holds, as the order has it
    abbrev all : AllStand k count v
    all =
        record {
          terms = q.ordered.all.terms;
          sound = q.ordered.all.sound;
          waits = q.ordered.all.waits;
          fates = q.ordered.all.fates;
          clocks = q.ordered.all.clocks;
          nodes = q.ordered.all.nodes;
          first = q.ordered.all.first;
          senders = q.ordered.all.senders;
          servers = λ s node at. (q.ordered.servers s node at).stands;
        }

    -- the server of a lease that lasts is there
    there : (c : ClientId) (s : ServerId) → lasts v c s ≡ true → (node : ServerNode) × (node_of v (server s.0) ≡ Some node)
    there c s h = go (site_of v c) refl h
      where
        by : (site : WorldClient) → site_of v c ≡ Some site → (o : Option Association) → cl.association_with site.node.state s ≡ o → is_before (clock_of v (nodes.Client c)) (Rattle.st_rules.specs.ClientLease.end_at site.node.state.config (cl.lease_at o)) ≡ true → (node : ServerNode) × (node_of v (server s.0) ≡ Some node)
        by site e None f b = cc
        by site e (Some a) f b =
            let z = found_at (is_at s) site.node.state.associations a f in
            let y = known c.0 site e a z.1 in
            let l = y.0 in
            let u = y.1 in
            let x = eqb-true a.server.0 s.0 z.0 in
            numbered_there v.servers s.0 (omega (arith, l, x)) (omega (arith, u, x))

        go : (o : Option WorldClient) → site_of v c ≡ o → lasts_at (clock_of v (nodes.Client c)) s o ≡ true → (node : ServerNode) × (node_of v (server s.0) ≡ Some node)
        go None e b = cc
        go (Some site) e b = by site e (cl.association_with site.node.state s) refl (and_true site.node.running _ b).1

    -- the exclusive lock of a file is the one that is found
    lock_is : (rows : List HeldLock) (i : ℕ) (x : Option HeldLock) → find (is_lock_on i) rows ≡ x → 2 ≤ (held_at x).mode → (grant_or_zero (option_map grant_of_lock (find (is_exclusive_on i) rows))).0 ≡ (held_at x).g
    lock_is rows i None e t = absurd (omega (arith, t))
    lock_is rows i (Some x) e t =
        ap (λ y. (grant_or_zero (option_map grant_of_lock y)).0)
        (first_too (is_lock_on i) (is_exclusive_on i) (λ y h. (and_true (is_lock_on i y) _ h).0) rows x e (and_both _ _ (found_at (is_lock_on i) rows x e).0 (le-leb 2 (number_of x.mode) t)))

    written_at : (c : ClientId) (f : FileId) (p : PageNo) (node : ServerNode) (at : node_of v (server f.server.0) ≡ Some node) → Lasting k count v all f.server.0 node at c.0 → has_dirty_page f.ino p (association_of v c f.server) ≡ true →
        GrantsStand k count v (es ++ record { file = f; g = lock_grant v c f } ∷ [])
    written_at c f p node at l dirty = one_more es q f (lock_grant v c f) z.0 (λ n x. subst (λ (m : ServerNode). OrderedServer k v f.server.0 m (upd (q.numbers f.server.0) f.ino (lock_grant v c f).0)) (some_is (sym at ∙ x)) z.1)
      where
        o : OrderedServer k v f.server.0 node (q.numbers f.server.0)
        o = q.ordered.servers f.server.0 node at

        page : (d : DirtyPage) × Has d l.association.store.pages.dirty × (is_dirty_of f.ino p d ≡ true)
        page = some_member_passes (is_dirty_of f.ino p) l.association.store.pages.dirty (ap (has_dirty_page f.ino p) (sym l.found) ∙ dirty)

        two : 2 ≤ ((client_in v c.0 f.server.0 ((q.ordered.servers f.server.0 node at).stands.ended c.0)).held f.ino).mode
        two = subst (λ i. 2 ≤ ((client_in v c.0 f.server.0 ((q.ordered.servers f.server.0 node at).stands.ended c.0)).held i).mode) (eqb-true page.0.ino f.ino (and_true (page.0.ino == f.ino) _ page.2).0)
            (dirty_mode k count v all f.server.0 node at c.0 l page.0 page.1)

        held_is : (client_in v c.0 f.server.0 ((q.ordered.servers f.server.0 node at).stands.ended c.0)).held f.ino ≡ held_at (lock_of l.session.locks f.ino)
        held_is = ap (λ (x : Client). x.held f.ino) l.seen ∙ ap (λ x. held_in x f.ino) l.is

        grant_is : (lock_grant v c f).0 ≡ ((client_in v c.0 f.server.0 ((q.ordered.servers f.server.0 node at).stands.ended c.0)).held f.ino).g
        grant_is =
            ap (λ a. (grant_or_zero (option_map grant_of_lock (find (is_exclusive_on f.ino) (locks_at a)))).0) l.found
            ∙ ap (λ x. (grant_or_zero (option_map grant_of_lock (find (is_exclusive_on f.ino) (locks_of_session x)))).0) l.is
            ∙ lock_is l.session.locks.rows f.ino (lock_of l.session.locks f.ino) refl (let z = ap (λ (x : Lock). x.mode) held_is in let t = two in omega (arith, z, t))
            ∙ sym (ap (λ (x : Lock). x.g) held_is)

        z : (q.numbers f.server.0 f.ino ≤ (lock_grant v c f).0) × OrderedServer k v f.server.0 node (upd (q.numbers f.server.0) f.ino (lock_grant v c f).0)
        z = server_change k q.ordered.all.sound v f.server.0 node (q.numbers f.server.0) (q.ordered.servers f.server.0 node at) c.0 f.ino l.alive two (lock_grant v c f).0 grant_is

    written : (c : ClientId) (f : FileId) (p : PageNo) → lasts v c f.server ≡ true → has_dirty_page f.ino p (association_of v c f.server) ≡ true → GrantsStand k count v (es ++ record { file = f; g = lock_grant v c f } ∷ [])
    written c f p last dirty = let n = there c f.server last in written_at c f p n.0 n.1 (lasting k count v all f.server.0 n.0 n.1 c.0 last) dirty

    -- a server's cut
    cut_at : (f : FileId) (node : ServerNode) → node_of v (server f.server.0) ≡ Some node → (r : LockRow) → find (is_exclusive_row f.ino) node.state.locks.rows ≡ Some r → (g : GrantNo) → g.0 ≡ r.g.0 → GrantsStand k count v (es ++ record { file = f; g = g } ∷ [])
    cut_at f node at r e g same = one_more es q f g z.0 (λ n x. subst (λ (m : ServerNode). OrderedServer k v f.server.0 m (upd (q.numbers f.server.0) f.ino g.0)) (some_is (sym at ∙ x)) z.1)
      where
        o : OrderedServer k v f.server.0 node (q.numbers f.server.0)
        o = q.ordered.servers f.server.0 node at

        there_is : RowThere node f.ino r
        there_is = row_there node o.stands.calm.once f.ino r e

        z : (q.numbers f.server.0 f.ino ≤ g.0) × OrderedServer k v f.server.0 node (upd (q.numbers f.server.0) f.ino g.0)
        z = server_cut k q.ordered.all.sound v f.server.0 node (q.numbers f.server.0) o r.client.0 f.ino there_is.two g.0 (same ∙ there_is.g)

    was_cut : (f : FileId) → cuts_under f.ino (node_of v f.server) ≡ true → GrantsStand k count v (es ++ record { file = f; g = row_grant v f } ∷ [])
    was_cut f h =
        let n = under_is (node_of v f.server) f.ino h in
        let r = any_found (is_exclusive_row f.ino) n.0.state.locks.rows n.2 in
        cut_at f n.0 n.1 r.0 r.1 (row_grant v f) (row_is (node_of v f.server) n.0 n.1 f.ino r.0 r.1)

  -- What is observed.
  one_seen : (before : World) (h : History) (o : Observation) → ServersKnown v → is_change_locked v o ≡ true → GrantsStand k count v h.grants → GrantsStand k count v (recall before v h o).grants
  unfolding recall
  one_seen before h (seen.Wrote index c f p bytes) kn e q = let x = and_true (lasts v c f.server) _ e in written kn h.grants q c f p x.0 (and_true (has_exclusive f.ino (association_of v c f.server)) _ x.1).1
  one_seen before h (seen.Patched index c f p at bytes) kn e q = let x = and_true (lasts v c f.server) _ e in written kn h.grants q c f p x.0 (and_true (has_exclusive f.ino (association_of v c f.server)) _ x.1).1
  one_seen before h (seen.CutAt index f p) kn e q = was_cut kn h.grants q f e
  one_seen before h (seen.Suspected s c start) kn e q = q
  one_seen before h (seen.Stolen s c life) kn e q = q
  one_seen before h (seen.Leased c s end) kn e q = q
  one_seen before h o kn e q = q

  all_seen : (before : World) (os : List Observation) (h : History) → ServersKnown v → list_all (is_change_locked v) os ≡ true → GrantsStand k count v h.grants → GrantsStand k count v (recall_all before v os h).grants
  unfolding recall_all
  all_seen before [] h kn e q = q
  all_seen before (o ∷ os) h kn e q = let x = and_true (is_change_locked v o) _ e in all_seen before os (recall before v h o) kn x.1 (one_seen before h o kn x.0 q)

-- What holds after every event.
record Standing (k : Config) (count : ℕ) (t : Traced) : Type 0 where
  grants : GrantsStand k count t.world t.history.grants
  waits : WaitsHold t.world
  known : ServersKnown t.world

one : (k : Config) (count : ℕ) (past : List Step) (t : Traced) (e : Event) (sc : WorldTurn) → is_event count e ≡ true → Standing k count t → world_step t.world e ≡ Ok sc →
    ChangesGoInTheOrderOfLocks past (step t e sc) × Standing k count (traced_after e t sc)
one k count past t e sc h b taken = (grants.falls, record { grants = grants; waits = cut.holds; known = written.known })
  where
    was : AllStand k count t.world
    was = b.grants.ordered.all

    moved : Ordered k count sc.world b.grants.numbers
    moved = stays_ordered k count b.grants.numbers t.world e sc b.grants.ordered (full count t.world e was.nodes h) taken

    p : (Rattle.st_rules.specs.Admissible.refusal t.world e ≡ None) × (sc ≡ Rattle.st_rules.specs.Events.happens (counted t.world) e)
    p = step_happens t.world e sc taken

    cut : record { locked : list_all (is_cut_locked sc.world.servers) sc.seen ≡ true; holds : WaitsHold sc.world }
    cut = cut_law t.world e sc taken (waits_owed k count t.world was e p.0) b.waits

    written : Written k count sc
    written = subst (Written k count) (sym p.1) (happens_written k count (counted t.world) e (record { lives = was.fates.lives.lives; known = was.fates.lives.known }) b.known)

    locked : list_all (is_change_locked sc.world) sc.seen ≡ true
    locked = both_locked sc.world sc.seen cut.locked (written.locked moved.all)

    start : GrantsStand k count sc.world (remember t.world e t.history).grants
    start = subst (GrantsStand k count sc.world) (sym (remembered_grants t.world e t.history)) (record { numbers = b.grants.numbers; ordered = moved; under = b.grants.under; falls = b.grants.falls })

    grants : GrantsStand k count sc.world (traced_after e t sc).history.grants
    grants = all_seen k count sc.world t.world sc.seen (remember t.world e t.history) written.known locked start

nothing : never_fall [] ≡ true
unfolding never_fall
nothing = refl

-- At the start nothing was granted.
fresh_order : (k : base.Config) (clients servers disks blocks form : ℕ) → IsHead k clients servers disks blocks form → Standing (terms_of k) (clients + servers) (traced (fresh_world k clients servers disks blocks form))
fresh_order k clients servers disks blocks form head =
    record {
      grants = record {
        numbers = λ s i. 0;
        ordered = record {
          all = begun k clients servers disks blocks form head;
          servers = λ s node at. record {
            stands = (begun k clients servers disks blocks form head).servers s node at;
            below = λ c. record { rows = λ i x. omega arith; held = λ al i x. omega arith; comes = λ al st i g m y x lt. omega arith; asserts = λ u g ti l st ls y lt i x. omega arith; top = λ i. omega arith };
          };
        };
        under = λ e h. absurd h;
        falls = nothing;
      };
      waits = fresh_waits k clients servers disks blocks form;
      known = fresh_known k clients servers disks blocks form;
    }

pub order_law : InEveryRun ChangesGoInTheOrderOfLocks
order_law k clients servers disks blocks form es head events =
    throughout_events (clients + servers) ChangesGoInTheOrderOfLocks (λ past t. Standing (terms_of k) (clients + servers) t) (λ past t e sc h b taken. one (terms_of k) (clients + servers) past t e sc h b taken) es events []
    (traced (fresh_world k clients servers disks blocks form)) (fresh_order k clients servers disks blocks form head)
