-- Dirty pages stand alone: an association whose lease lasts is a living client of the machine, and a dirty page makes its file busy.
use Rattle.st_lemmas.proofs.Words
use Words.{◌≡◌, ◌≢◌, ℕ, ◌+◌, ◌≤◌, ◌⊎◌, Bool, true, false, not, ◌||◌, List, [], ◌∷◌, Option, Some, None, refl, sym, ap, ◌∙◌, subst, inl, inr}
use Words.{arith, if◌then◌else◌, find, length, map, option_map, list_all, list_any, eq-eqb, ltb-true, ne_eqb, ClientId, FileId, ServerId, Stamp}
use Words.{HeldLock, DirtyPage, false_from_ne_true}
use Words.nodes
use Words.Client as cl
use Words.ClientLease.{end_at}
use Words.ClientLocks.{is_lock_on, lock_of}
use Words.ClientPages.{has_write_on, is_dirty_on}
use Words.ClientState.{Association, ClientSession}
use Words.Extents.{numbers}
use Words.History.{association_at, association_of, locks_at, locks_of_session}
use Words.Keys.{client, same_client}
use Words.Locks as locks
use Words.Safety.{all_alone, are_alone, dirty_at, dirty_files, file_of_dirty, has_row, has_row_at, holds, is_alone, is_apart, is_before, lasts, lasts_at}
use Words.Server.{ServerNode}
use Words.World.{World, WorldClient, all_clients, all_servers, clock_of, node_of, server, site_of}
use Words.Lists.{Has}
use Words.Tables.{all_pass, and_true, has_map, same_or_not, some_passes}
use Words.Lengths.{numbered_there}
use Words.Members.{numbers_between}
use Words.Truth.{not_both, some_there}
use Rattle.st_base.specs.Mode.{number_of}
use Rattle.st_protocol.specs.Assoc as net
use Rattle.st_protocol.specs.Assoc.{Alive, Config}
use Rattle.st_protocol.proofs.World.{alone, exclusive, invariant}
use Rattle.st_laws_refine.specs.Views.Halves.{client_of, date_in, held_at, held_in, leased_in, row_or, row_view}
use Rattle.st_laws_refine.proofs.Client.Replies.{mode_found}
use Rattle.st_laws_refine.specs.Server.Pair.{client_in}
use Rattle.st_laws_refine.specs.Server.Invariants.{pairs}
use Rattle.st_laws_leases.specs.Sides.Invariants.{Standing}
use Rattle.st_laws_refine.specs.Client.Invariants.{Kept}
use Rattle.st_laws_leases.specs.Sides.World.{AllStand, ServerStands}
use Rattle.st_laws_leases.proofs.Sides.Pairs.{found_at_place, own_view}

module _ (k : Config) (count : ℕ) (w : World) (a : AllStand k count w) (s : ℕ) (node : ServerNode) (at : node_of w (server s) ≡ Some node) where
  abbrev pub z : ServerStands k w s node
  z = a.servers s node at

  abbrev pub view : ℕ → net.Client
  view c = client_in w c s (z.ended c)

  -- A client's lease at the server lasts: what it has there.
  pub record Lasting (c : ℕ) : Type 0 where
    pub association : Association
    pub found : association_of w (client c) (server s) ≡ Some association
    pub session : ClientSession
    pub is : association.session ≡ Some session
    pub seen : view c ≡ client_of (z.ended c) (clock_of w (nodes.Client (client c))).0 association
    pub alive : Alive k (view c)
    pub modes : (l : HeldLock) (i : ℕ) → lock_of session.locks i ≡ Some l → 1 ≤ number_of l.mode

  pub lasting : (c : ℕ) → lasts w (client c) (server s) ≡ true → Lasting c
  lasting c h = go (site_of w (client c)) refl h
    where
      clock : Stamp
      clock = clock_of w (nodes.Client (client c))

      go : (o : Option WorldClient) → site_of w (client c) ≡ o → lasts_at clock (server s) o ≡ true → Lasting c
      go None e h = cc
      go (Some site) e h = by q.association.session refl (subst (λ o. is_before clock (end_at site.node.state.config (cl.lease_at o)) ≡ true) there (and_true site.node.running _ h).1)
        where
          q : Standing k s c site w.ended (z.ghosts c).net
          q = z.both.clients c site e

          runs : site.node.running ≡ true
          runs = (and_true site.node.running _ h).0

          there : cl.association_with site.node.state (server s) ≡ Some q.association
          there = found_at_place s site.node.state q.association q.sim.place

          same : view c ≡ client_of (z.ended c) clock.0 q.association
          same = own_view w c s (z.ended c) site q.association e runs q.sim.place

          by : (o : Option ClientSession) → q.association.session ≡ o → is_before clock (end_at site.node.state.config (option_map cl.lease_of_session o)) ≡ true → Lasting c
          by None f h = cc
          by (Some ss) f h =
              record {
                association = q.association;
                found = ap (association_at (server s)) e ∙ there;
                session = ss;
                is = f;
                seen = same;
                alive = subst (Alive k) (sym same ∙ refl)
                    (record { leased = ap leased_in f; lasts = let t = q.sim.terms in let l = ltb-true clock.0 (ss.lease.date.0 + site.node.state.config.lease) h in let d = ap date_in f in omega (arith, t, l, d) });
                modes = λ l i g. mode_found (is_lock_on i) ss.locks.rows l (subst (λ o. Kept q.association.life.0 q.association.store o (z.ghosts c).net) f q.sim.kept).modes g;
              }

  -- a listed lock of the association has a mode
  holds_mode : (c i : ℕ) (l : Lasting c) → list_any (is_lock_on i) (locks_at (association_of w (client c) (server s))) ≡ true → 1 ≤ ((view c).held i).mode
  holds_mode c i l h = subst (λ (x : net.Client). 1 ≤ (x.held i).mode) (sym l.seen) (subst (λ o. 1 ≤ (held_in o i).mode) (sym l.is) (by (lock_of l.session.locks i) refl))
    where
      rows : list_any (is_lock_on i) l.session.locks.rows ≡ true
      rows = ap (λ o. list_any (is_lock_on i) (locks_of_session o)) (sym l.is) ∙ ap (λ o. list_any (is_lock_on i) (locks_at o)) (sym l.found) ∙ h

      by : (o : Option HeldLock) → lock_of l.session.locks i ≡ o → 1 ≤ (held_at (lock_of l.session.locks i)).mode
      by None e = absurd (not_both _ rows (false_from_ne_true _ (λ t. missing l.session.locks.rows e t)))
        where
          missing : (rs : List HeldLock) → find (is_lock_on i) rs ≡ None → list_any (is_lock_on i) rs ≡ true → ⊥
          missing [] e t = cc
          missing (r ∷ rs) e t = go (is_lock_on i r) e t (missing rs)
            where
              go : (b : Bool) → (if b then Some r else find (is_lock_on i) rs) ≡ None → (b || list_any (is_lock_on i) rs) ≡ true → (find (is_lock_on i) rs ≡ None → list_any (is_lock_on i) rs ≡ true → ⊥) → ⊥
              go true e t f = cc
              go false e t f = f e t
      by (Some x) e = subst (λ o. 1 ≤ (held_at o).mode) (sym e) (l.modes x i e)

  -- a dirty page lies under an exclusive lock
  pub dirty_mode : (c : ℕ) (l : Lasting c) (d : DirtyPage) → Has d l.association.store.pages.dirty → 2 ≤ ((view c).held d.ino).mode
  dirty_mode c l d h =
      (invariant k (pairs s z.ended w node z.ghosts) a.sound z.both.stands.reached c).exact_.busy d.ino
      (ap (λ (x : net.Client). x.busy d.ino) l.seen ∙ ap (λ b. b || has_write_on l.association.store.commands d.ino) (some_passes (is_dirty_on d.ino) l.association.store.pages.dirty d h (eq-eqb d.ino d.ino refl)))

  -- so no other client has a lock on its file, or a row
  apart : (c d : ℕ) (l : Lasting c) (x : DirtyPage) → Has x l.association.store.pages.dirty → is_apart w (file_of_dirty (server s) x) (client c) (client d) ≡ true
  apart c d l x h = go (same_or_not c d)
    where
      f : FileId
      f = file_of_dirty (server s) x

      two : 2 ≤ ((view c).held x.ino).mode
      two = dirty_mode c l x h

      go : (c ≡ d) ⊎ (c ≢ d) → (same_client (client c) (client d) || not (holds w (client d) f || has_row w (client d) f)) ≡ true
      go (inl e) = ap (λ b. b || not (holds w (client d) f || has_row w (client d) f)) (eq-eqb c d e)
      go (inr n) = ap (λ b. b || not (holds w (client d) f || has_row w (client d) f)) (ne_eqb c d n) ∙ ap (λ b. not (b || has_row w (client d) f)) (false_from_ne_true (holds w (client d) f) no_lock) ∙ ap not (false_from_ne_true (has_row w (client d) f) no_row)
        where
          no_lock : holds w (client d) f ≡ true → ⊥
          no_lock e =
              let p = and_true (lasts w (client d) (server s)) _ e in
              let m = lasting d p.0 in
              let one = holds_mode d x.ino m p.1 in
              let sum = exclusive k (pairs s z.ended w node z.ghosts) a.sound z.both.stands.reached c d x.ino n l.alive m.alive (let t = two in omega arith) one in
              absurd (omega (arith, two, one, sum))

          no_row : has_row w (client d) f ≡ true → ⊥
          no_row e =
              let p = and_true node.running _ (ap (has_row_at (client d) x.ino) (sym at) ∙ e) in
              let r = some_there (locks.row_of node.state.locks (client d) x.ino) p.1 in
              let none = alone k (pairs s z.ended w node z.ghosts) a.sound z.both.stands.reached c d x.ino n l.alive two p.0 in
              let some = z.both.stands.compat.rows (client d) x.ino r.0 r.1 in
              let is = ap (λ o. (row_or (row_view o)).mode) r.1 in
              absurd (omega (arith, none, some, is))

  -- the dirty pages of a client at the server
  pub stand_alone : (c : ClientId) → are_alone w c (server s) ≡ true
  stand_alone c = go (lasts w c (server s)) refl
    where
      dirty : (l : Lasting c.0) → list_all (is_alone w c) (dirty_files w c (server s)) ≡ true
      dirty l = all_pass (is_alone w c) (dirty_files w c (server s)) each
        where
          each : (f : FileId) → Has f (map (file_of_dirty (server s)) (dirty_at (association_of w c (server s)))) → is_alone w c f ≡ true
          each f h =
              let m = has_map (file_of_dirty (server s)) (dirty_at (association_of w c (server s))) f h in
              let i = subst (λ o. Has m.0 (dirty_at o)) l.found m.1 in
              subst (λ (y : FileId). is_alone w c y ≡ true) (sym m.2) (all_pass (is_apart w (file_of_dirty (server s) m.0) c) (all_clients w) (λ d j. apart c.0 d.0 l m.0 i))

      go : (b : Bool) → lasts w c (server s) ≡ b → are_alone w c (server s) ≡ true
      go true e = ap (λ b. not b || list_all (is_alone w c) (dirty_files w c (server s))) e ∙ dirty (lasting c.0 e)
      go false e = ap (λ b. not b || list_all (is_alone w c) (dirty_files w c (server s))) e

-- everywhere
pub all_stand_alone : (k : Config) (count : ℕ) (w : World) → AllStand k count w → list_all (all_alone w) (all_clients w) ≡ true
all_stand_alone k count w a = all_pass (all_alone w) (all_clients w) (λ c h. all_pass (are_alone w c) (all_servers w) (λ s i. one c s i))
  where
    one : (c : ClientId) (s : ServerId) → Has s (map server (numbers 1 (length w.servers))) → are_alone w c s ≡ true
    one c s h =
        let m = has_map server (numbers 1 (length w.servers)) s h in
        let l = numbers_between 1 (length w.servers) m.0 m.1 in
        let n = numbered_there w.servers m.0 l.0 (let y = l.1 in omega (arith, y)) in
        subst (λ (x : ServerId). are_alone w c x ≡ true) (sym m.2) (stand_alone k count w a m.0 n.0 n.1 c)
