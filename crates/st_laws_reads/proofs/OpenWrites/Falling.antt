-- A client's crash: the lives that it ends are frozen, if a write of them is not reported, and those that were frozen stay so.
use Rattle.st_lemmas.proofs.Words
use Words.{◌≡◌, ℕ, ◌≤◌, ◌⊎◌, true, List, Option, Some, None, refl, sym, ap, ◌∙◌, subst, inl, inr, arith, option_map, BlockAt, Tag, Stamp, Ask, LogOwner}
use Words.{DirtyPage, IssuedCommand, LeaseLife}
use Words.nodes
use Words.Client as cl
use Words.ClientLease as lease
use Words.ClientPages.{dirty_of, has_dirty}
use Words.ClientState.{Association, ClientSession}
use Words.Events as ev
use Words.Keys.{client}
use Words.Server.{ServerNode}
use Words.World.{World, WorldClient, clock_of, ended_of, node_of, server, site_of}
use Words.Lists.{Has}
use Rattle.st_protocol.specs.Assoc.{Config}
use Rattle.st_laws_refine.specs.Views.Halves.{held_in}
use Rattle.st_laws_refine.specs.Client.Invariants.{Lasts}
use Rattle.st_laws_leases.specs.Sides.World.{AllStand}
use Rattle.st_laws_reads.specs.Copies.Law.{ClientCopies, StandsAt}
use Rattle.st_laws_reads.proofs.AllClients.Alone.{while_at}
use Rattle.st_laws_pages.specs.Writes.Writes.{IsListed, ListedSince, OpenHold}
use Rattle.st_laws_reads.specs.FrozenLives.PendingEntries.{StoodLife}
use Rattle.st_laws_reads.proofs.FrozenLives.Falling.{OwnRow, V, after, before_at, came, dirty_any, falls, own_row, there_too}
use Rattle.st_laws_reads.specs.OpenWrites.StandStill.{OpenWrite, OverOrStill, WritesHold, writer}
use Rattle.st_laws_reads.proofs.OpenWrites.Still.{still_on}
use Rattle.st_laws_reads.proofs.OpenWrites.Tracked.{site_kept}

-- a page is dirty under a lease only
session_there : (asks : ℕ → Option Ask) (c : ℕ) (w : World) (site : WorldClient) (a : Association) (ino : ℕ) (p : Rattle.st_base.specs.declared.ids.PageNo.PageNo) (d : DirtyPage) → ClientCopies asks (client c) w.log (clock_of w (nodes.Client (client c))) site.node.state → Has a site.node.state.associations →
    dirty_of a.store.pages ino p ≡ Some d → (s : ClientSession) × (a.session ≡ Some s)
session_there asks c w site a ino p d copies here dirty = go a.session refl
  where
    go : (o : Option ClientSession) → a.session ≡ o → (s : ClientSession) × (a.session ≡ Some s)
    go (Some s) e = (s, e)
    go None e =
        let lasts : Lasts site.node.state.config.lease (clock_of w (nodes.Client (client c))).0 a.session = subst (λ o. Lasts site.node.state.config.lease (clock_of w (nodes.Client (client c))).0 o) (sym e) tt in
        let z : StandsAt (client c) w.log a = (while_at _ _ (client c) w.log site.node.state.associations a copies.copies here).lasting lasts in
        let m = (z.pages ino p).mode d dirty in
        let n = ap (λ o. (held_in o ino).mode) e in absurd (omega (arith, m, n))

module _ (asks : ℕ → Option Ask) (k : Config) (count : ℕ) (w : World) (c : ℕ) (site : WorldClient) (there : site_of w (client c) ≡ Some site) (runs : site.node.running ≡ true) (h : WritesHold k count w) (open_ : OpenHold w)
    (copies : ClientCopies asks (client c) w.log (clock_of w (nodes.Client (client c))) site.node.state) (after0 : AllStand k count (V k count w c site there runs h.all)) where
  abbrev v : World
  v = V k count w c site there runs h.all

  abbrev new : AllStand k count v
  new = after k count w c site there runs h.all after0

  abbrev Own : LeaseLife → LogOwner → Type 0
  Own = OwnRow k count w c site there runs h.all after0

  -- a crash changes no command
  same_open : (n : ℕ) (x : IssuedCommand) (at : BlockAt) (tag : Tag) (bytes : List ℕ) → OpenWrite v n x at tag bytes → OpenWrite w n x at tag bytes
  unfolding ev.crashes_client ev.marks
  same_open n x at tag bytes o = record { issued = o.issued; command = o.command; is = o.is; what = o.what; unreported = o.unreported }

  same_clock : (d : Rattle.st_base.specs.declared.ids.ClientId.ClientId) (n : ℕ) → n ≤ (clock_of w (nodes.Client d)).0 → n ≤ (clock_of v (nodes.Client d)).0
  unfolding ev.crashes_client ev.marks
  same_clock d n t = t

  -- the write is outstanding, so its page is dirty
  listed : (n : ℕ) (x : IssuedCommand) (at : BlockAt) (tag : Tag) (bytes : List ℕ) → OpenWrite w n x at tag bytes → (row : LeaseLife) (y : Own row (writer x tag)) → ListedSince site.starts y.a x tag
  listed n x at tag bytes o row y = open_ (client c) site there runs y.a y.here n x o.command at tag bytes o.issued o.is o.what o.unreported y.client_is y.server_is y.life_is

  dirty : (x : IssuedCommand) (tag : Tag) (row : LeaseLife) (y : Own row (writer x tag)) → IsListed y.a x.number tag → has_dirty y.a.store.pages tag.file.ino ≡ true
  dirty x tag row y l = subst (λ i. has_dirty y.a.store.pages i ≡ true) l.ino (dirty_any l.command.ino l.command.page y.a.store.pages.dirty l.dirty l.dirty_is)

  stand : (n : ℕ) (x : IssuedCommand) (at : BlockAt) (tag : Tag) (bytes : List ℕ) → OpenWrite w n x at tag bytes → (row : LeaseLife) → ended_of v x.client x.server x.life ≡ Some row → row.crashed ≡ true → OverOrStill k count v new row (writer x tag)
  unfolding after came before_at
  stand n x at tag bytes o row q crash = go (ended_of w x.client x.server x.life) refl
    where
      go : (p : Option LeaseLife) → ended_of w x.client x.server x.life ≡ p → OverOrStill k count v new row (writer x tag)
      go None f =
          let y : Own row (writer x tag) = own_row k count w c site there runs h.all after0 (writer x tag) row f q in
          let l = (listed n x at tag bytes o row y).listed in
          let s = session_there asks c w site y.a l.command.ino l.command.page l.dirty copies y.here l.dirty_is in
          record {
            end = lease.end_of site.node.state.config s.0.lease;
            is = y.end ∙ ap (λ z. lease.end_at site.node.state.config (option_map cl.lease_of_session z)) s.1;
            still = λ node at. inr (falls k count w c site there runs h.all after0 row (writer x tag) y (dirty x tag row y l) node (h.all.servers (writer x tag).file.server.0 node (before_at k count w c site there runs h.all (writer x tag).file.server.0 node at)));
          }
      go (Some y) f =
          let w_row : ended_of w x.client x.server x.life ≡ Some row = f ∙ sym (there_too k count w c site there runs h.all (writer x tag) y f) ∙ q in
          let z = h.writes n x at tag bytes o row w_row crash in
          record { end = z.end; is = z.is; still = λ node at. by z.end z.is node at (z.still node (before_at k count w c site there runs h.all (writer x tag).file.server.0 node at)) }
        where
          by : (end : Stamp) → row.end ≡ Some end → (node : ServerNode) (at : node_of v (server (writer x tag).file.server.0) ≡ Some node) →
              (end.0 ≤ (clock_of w (nodes.Client x.client)).0) ⊎ StoodLife k w (writer x tag).file.server.0 node (h.all.servers (writer x tag).file.server.0 node (before_at k count w c site there runs h.all (writer x tag).file.server.0 node at)) row (writer x tag) →
              (end.0 ≤ (clock_of v (nodes.Client x.client)).0) ⊎ StoodLife k v (writer x tag).file.server.0 node (new.servers (writer x tag).file.server.0 node at) row (writer x tag)
          by end is node at (inl late) = inl (same_clock x.client end.0 late)
          by end is node at (inr s) = still_on k count w v h.all new (writer x tag) row q end is node (new.servers (writer x tag).file.server.0 node at) (came k count w c site there runs h.all after0 (writer x tag).file.server.0 node at) s

  is_there : (n : ℕ) (x : IssuedCommand) (at : BlockAt) (tag : Tag) (bytes : List ℕ) → OpenWrite w n x at tag bytes → (s : WorldClient) × (site_of v x.client ≡ Some s)
  unfolding ev.crashes_client ev.marks
  is_there n x at tag bytes o = let z = h.there n x at tag bytes o in site_kept w.clients c x.client.0 (ev.stopped_site site) z.0 z.1

  pub writes_fall : WritesHold k count v
  writes_fall = record { all = new; there = λ n x at tag bytes o. is_there n x at tag bytes (same_open n x at tag bytes o); writes = λ n x at tag bytes o row q crash. stand n x at tag bytes (same_open n x at tag bytes o) row q crash }
