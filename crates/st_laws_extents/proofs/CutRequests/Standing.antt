-- A client that runs under a lease that lasts, at a server of a world in which everything holds.
use Rattle.st_lemmas.proofs.Words
use Words.{◌≡◌, ◌≢◌, ◌⊎◌, ℕ, ◌≤◌, Bool, true, false, Some, refl, sym, ap, ◌∙◌, subst, inl, inr, arith, GrantNo, LockRow, Session}
use Words.nodes
use Words.ClientState.{Association, ClientSession}
use Words.Keys.{client, server_node}
use Words.Locks.{row_of}
use Words.Server.{ServerNode}
use Words.Sessions as sessions
use Words.World.{World, WorldClient, clock_of, node_of, server}
use Words.Lists.{Has}
use Words.Tables.{same_or_not}
use Rattle.st_base.specs.Mode.{number_of}
use Rattle.st_protocol.specs.Assoc as net
use Rattle.st_protocol.specs.Assoc.{Alive, Assoc, Config, msg}
use Rattle.st_protocol.proofs.Claims.{inside}
use Rattle.st_protocol.proofs.Invariant.{Invariant}
use Rattle.st_protocol.proofs.World.{invariant}
use Rattle.st_laws_refine.specs.Views.Halves.{client_of, epoch_in, held_at, held_in, leased_in, life_view, live_view, row_or, row_view}
use Rattle.st_laws_refine.specs.Client.Invariants.{Lasts}
use Rattle.st_laws_refine.specs.Server.Pair.{client_in}
use Rattle.st_laws_refine.specs.Server.Invariants.{pairs}
use Rattle.st_laws_leases.specs.Sides.Invariants.{Standing}
use Rattle.st_laws_leases.specs.Sides.World.{AllStand, ServerStands}
use Rattle.st_laws_leases.proofs.Sides.Pairs.{only_here, own_view}
use Rattle.st_laws_reads.specs.AllClients.Law.{Running}
use Rattle.st_laws_reads.proofs.AllClients.Alone.{living}
use Rattle.st_laws_steps.specs.Client.Session.{HasExclusive}
use Rattle.st_laws_extents.specs.CutRequests.NamedGrants.{Given, Named}
use Rattle.st_laws_extents.proofs.CutRequests.Named.{reached}
use Rattle.st_protocol.proofs.Timing.{renews_of}

-- A living client, at a server that serves a session of it: of that life, and in the server's epoch.
pub meets : (k : Config) (a : Assoc) → Invariant k a → a.s.up ≡ true → a.s.live ≡ true → Alive k a.c → (a.s.session ≡ a.c.life) × (a.c.epoch ≡ a.s.epoch)
meets k a inv up live alive = go a.s.grace refl
  where
    low : a.s.grace ≡ true → a.s.session ≡ a.s.glife → a.c.life ≤ a.s.glife
    low g sess = by (same_or_not a.c.epoch a.s.epoch)
      where
        due : a.c.epoch ≡ a.s.epoch → (b : Bool) → a.c.due ≡ b → a.c.life ≤ a.s.glife
        due e true d = let z = inv.lives_.due up alive.leased d e in omega (arith, z)
        due e false d = let z = inv.locks_.joined up e alive.leased d in omega (arith, z, sess)

        by : (a.c.epoch ≡ a.s.epoch) ⊎ (a.c.epoch ≢ a.s.epoch) → a.c.life ≤ a.s.glife
        by (inl e) = due e a.c.due refl
        by (inr n) =
            let r = inv.timing_.dated alive.leased in let ahead = inv.timing_.ahead in let most = r.3 in
            inv.lives_.former up (msg a.c.life r.0 a.c.date r.1) r.4 (renews_of r.1 r.2) (omega (arith, ahead, n, most))

    go : (g : Bool) → a.s.grace ≡ g → (a.s.session ≡ a.c.life) × (a.c.epoch ≡ a.s.epoch)
    go false g = let p = inside k a inv.timing_ up g alive in (p.1, p.0)
    go true g =
        let sess = inv.lives_.graced up g (inv.born_.session live) in
        let l = low g sess in
        let since = inv.lives_.since up in
        let same : a.s.session ≡ a.c.life = omega (arith, sess, l, since) in
        (same, inv.locks_.graced up g same)

module _ (k : Config) (count : ℕ) (w : World) (a : AllStand k count w) (s : ℕ) (node : ServerNode) (at : node_of w (server s) ≡ Some node) where
  abbrev pub z : ServerStands k w s node
  z = a.servers s node at

  abbrev pub u : net.World
  u = pairs s z.ended w node z.ghosts

  pub named : (d : ℕ) → Named (u.at d)
  named d = reached k a.sound z.both.stands.reached d

  -- a row has a number that was given on its file
  pub given_row : (d i : ℕ) (r : LockRow) → row_of node.state.locks (client d) i ≡ Some r → 1 ≤ number_of r.mode → Given (z.ghosts d).net i r.g.0
  given_row d i r e m = subst (Given (z.ghosts d).net i) (ap (λ o. (row_or (row_view o)).g) e) ((named d).rows i (let q = ap (λ o. (row_or (row_view o)).mode) e in omega (arith, q, m)))

  -- A client that runs, with an association of this server.
  module _ (d : ℕ) (site : WorldClient) (run : Running w d site) (b : Association) (h : Has b site.node.state.associations) (e : b.server ≡ server s) where
    pub whole : client_in w d s (z.ended d) ≡ client_of (z.ended d) (clock_of w (nodes.Client (client d))).0 b
    whole = own_view w d s (z.ended d) site q.association run.there run.runs q.sim.place ∙ ap (client_of (z.ended d) (clock_of w (nodes.Client (client d))).0) (sym is)
      where
        q : Standing k s d site w.ended (z.ghosts d).net
        q = z.both.clients d site run.there

        is : b ≡ q.association
        is = only_here s site.node.state.associations q.association q.sim.place b h (ap server_node e)

    -- an exclusive lock has a number that was given on its file
    pub given_held : (x : ClientSession) → b.session ≡ Some x → (ino : ℕ) (g : GrantNo) → HasExclusive x ino g → Given (z.ghosts d).net ino g.0
    given_held x f ino g y = subst (Given (z.ghosts d).net ino) (ap (λ (l : net.Lock). l.g) is ∙ ap (λ (n : GrantNo). n.0) y.under) ((named d).held ino (omega (arith, mode)))
      where
        is : (client_in w d s (z.ended d)).held ino ≡ held_at (Some y.lock)
        is = ap (λ (c : net.Client). c.held ino) whole ∙ ap (λ o. held_in o ino) f ∙ ap held_at y.is

        mode : ((client_in w d s (z.ended d)).held ino).mode ≡ 2
        mode = ap (λ (l : net.Lock). l.mode) is ∙ ap number_of y.exclusive

    -- the session that its server serves is the present one
    pub own_session : (x : ClientSession) → b.session ≡ Some x → Lasts site.node.state.config.lease (clock_of w (nodes.Client (client d))).0 b.session → node.running ≡ true → (y : Session) → sessions.session_of node.state.sessions (client d) ≡ Some y → sessions.is_live y ≡ true →
        (y.life.0 ≡ b.life.0) × (x.epoch.0 ≡ node.state.stable.epoch.0)
    own_session x f lasts runs y is live =
        let m = meets k (u.at d) (invariant k u a.sound z.both.stands.reached d) runs (ap live_view is ∙ live) (living k count w a s node at d site run b h e lasts (ap leased_in f)).alive in
        (sym (ap life_view is) ∙ m.0 ∙ ap (λ (c : net.Client). c.life) whole, sym (ap (λ (c : net.Client). c.epoch) whole ∙ ap epoch_in f) ∙ m.1)
