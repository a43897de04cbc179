-- What the machine of one client at one server says of the numbers of grants. A client releases no lock under a number that its server hasn't given. A lock
-- that it holds is under no later number than the server's row. And a client with a row has a session.
use Rattle.st_lemmas.proofs.Words
use Words.{◌≡◌, ℕ, ◌+◌, ◌<◌, ◌≤◌, ◌⊎◌, true, List, [], ◌∷◌, Option, Some, None, refl, sym, ap, ◌∙◌, subst, inl, inr, arith, is_some, ClientId}
use Words.{GrantNo, ServerId, Mode, HeldLock, LockRow, Release, Request, Session}
use Words.nodes
use Words.bodies
use Words.ClientLocks.{is_lock_on, lock_of}
use Words.ClientState.{ClientSession}
use Words.Locks.{first_after, row_of}
use Words.Server.{ServerNode, ServerState}
use Words.Sessions as sessions
use Words.World.{World, WorldClient, clock_of, node_of, site_of}
use Words.Lists.{Has}
use Rattle.st_protocol.specs.Assoc as net
use Rattle.st_protocol.specs.Assoc.{Alive, Assoc, Body, Config, ConfigOk, GoesOn, In, Move, Moves, Msg, Reached, Released, Stays, Then, Works, AtFirst, msg}
use Rattle.st_protocol.specs.Assoc.{Accepts, Acks, Again, AskedOfNone, Asks, Declines, Demands, Grants, GrantsAgain, Greets, Reasserts, Reduces, Refuses}
use Rattle.st_protocol.specs.Assoc.{Releases, Repeats, Rises, Welcomes, WelcomesAgain}
use Rattle.st_protocol.proofs.Claims.{not_lost}
use Rattle.st_protocol.proofs.Invariant.{Invariant, kept_one}
use Rattle.st_protocol.proofs.Lists.{in_cons}
use Rattle.st_protocol.proofs.Locks.{Covered, Locks as Layer, Lost}
use Rattle.st_protocol.proofs.World.{invariant}
use Rattle.st_laws_refine.specs.Client.Invariants.{Kept, KeptIn, Outstanding, Waiting}
use Rattle.st_laws_refine.specs.Server.Invariants.{pairs}
use Rattle.st_laws_refine.specs.Server.Pair.{client_in}
use Rattle.st_laws_refine.specs.Server.View.{Sound}
use Rattle.st_laws_refine.specs.Views.Halves.{client_of, date_in, epoch_in, half_of, held_at, held_in, leased_in, life_view, row_or, row_view}
use Rattle.st_laws_refine.specs.Views.Messages.{Shows, released_to, shown}
use Rattle.st_laws_refine.proofs.Client.Replies.{mode_found}
use Rattle.st_laws_refine.proofs.Server.Delivery.{sound_of}
use Rattle.st_laws_leases.specs.Sides.Invariants.{Standing}
use Rattle.st_laws_leases.specs.Sides.World.{AllStand, ServerStands}
use Rattle.st_laws_leases.proofs.Sides.Pairs.{own_view}

-- a release is under a number that is no greater
abbrev Low : ℕ → Body → Type 0
Low top (Released i g to) = g ≤ top
Low top b = Unit {0}

abbrev AllLow : Assoc → Type 0
AllLow a = (m : Msg) → In m a.net → Low a.s.top m.body

low_up : (t u : ℕ) → t ≤ u → (b : Body) → Low t b → Low u b
low_up t u l (Released i g to) h = omega (arith, l, h)
low_up t u l b h = tt

module _ (k : Config) where
  low_move : {a b : Assoc} → Move k a b → Layer k a → AllLow a → AllLow b
  low_move (Greets a h) l f m w = in_cons (λ m. Low a.s.top m.body) _ a.net tt f m w
  low_move (Asks a h) l f m w = in_cons (λ m. Low a.s.top m.body) _ a.net tt f m w
  low_move (AskedOfNone a stamp i g to j h mo top se sg) l f m w = in_cons (λ m. Low a.s.top m.body) _ a.net (l.low _ j) f m w
  low_move (Reduces a i to h jo fe so mo gn ge gl) l f m w = in_cons (λ m. Low a.s.top m.body) _ a.net (l.below i) f m w
  low_move (Declines a stamp i g mode j h se z) l f m w = in_cons (λ m. Low a.s.top m.body) _ a.net (l.low _ j) f m w
  low_move (Repeats a was b j r h) l f m w = in_cons (λ m. Low a.s.top m.body) _ a.net (f _ j) f m w
  low_move (Again a was stamp b j e i sv li) l f m w = in_cons (λ m. Low a.s.top m.body) _ a.net (f _ j) f m w
  low_move (Reasserts a h du) l f m w = in_cons (λ m. Low a.s.top m.body) _ a.net tt f m w
  low_move (Welcomes a life stamp j sv gr s r) l f m w = in_cons (λ m. Low a.s.top m.body) _ a.net tt f m w
  low_move (WelcomesAgain a stamp j sv li gr) l f m w = in_cons (λ m. Low a.s.top m.body) _ a.net tt f m w
  low_move (Acks a stamp j sv li) l f m w = in_cons (λ m. Low a.s.top m.body) _ a.net tt f m w
  low_move (Refuses a n j sv) l f m w = in_cons (λ m. Low a.s.top m.body) _ a.net tt f m w
  low_move (Accepts a life stamp locks j sv gr s r) l f m w = in_cons (λ m. Low a.s.top m.body) _ a.net tt f m w
  low_move (Grants a st i g mode as_ li sv gr to mo tw) l f m w =
      in_cons (λ m. Low g m.body) _ a.net tt (λ n v. low_up a.s.top g (omega (arith, to)) n.body (f n v)) m w
  low_move (GrantsAgain a i sv mo) l f m w = in_cons (λ m. Low a.s.top m.body) _ a.net tt f m w
  low_move (Demands a i to sv mo) l f m w = in_cons (λ m. Low a.s.top m.body) _ a.net tt f m w
  low_move (Releases a stamp i g to j sv e ro mo) l f m w = in_cons (λ m. Low a.s.top m.body) _ a.net tt f m w
  low_move (Rises a g to) l f m w = low_up a.s.top g (omega (arith, to)) m.body (f m w)
  low_move _ l f m w = f m w

  low_moves : {a b : Assoc} → ConfigOk k → Moves k a b → Invariant k a → AllLow a → AllLow b
  low_moves ok (Stays a) i f = f
  low_moves ok (GoesOn m e r) i f = low_moves ok r (kept_one k ok m i) (low_move m i.locks_ f)

  low_reached : (w : net.World) → ConfigOk k → Reached k w → (c : ℕ) → AllLow (w.at c)
  low_reached w ok (AtFirst _ s b) c = λ m i. absurd (subst (In m) (b c).net i)
  low_reached w ok (Then {w = v} r s) c = go (s.each c) (low_reached v ok r c)
    where
      go : Move k (v.at c) (w.at c) ⊎ (w.at c ≡ v.at c) → AllLow (v.at c) → AllLow (w.at c)
      go (inl m) f = low_move m (invariant k v ok r c).locks_ f
      go (inr e) f = subst AllLow (sym e) f
  low_reached w ok (Works {w = v} r s) c = low_moves ok (s.each c) (invariant k v ok r c) (low_reached v ok r c)

-- the number of the last grant
abbrev pub given : ServerState → ℕ
given n = first_after n.locks.epoch + n.locks.grants

waiting_in : (life epoch : ℕ) (rs : List Release) (N : List Msg) → Waiting life epoch rs N → (r : Release) → Has r rs →
    In (msg life epoch 0 (Released r.ino r.g.0 (released_to r.to))) N
waiting_in life epoch [] N w r h = absurd h
waiting_in life epoch (x ∷ rs) N w r (inl e) = subst (λ (y : Release). In (msg life epoch 0 (Released y.ino y.g.0 (released_to y.to))) N) (sym e) w.one
waiting_in life epoch (x ∷ rs) N w r (inr h) = waiting_in life epoch rs N w.rest r h

module _ (k : Config) (count : ℕ) (w : World) (a : AllStand k count w) (s : ServerId) (node : ServerNode) (at : node_of w s ≡ Some node)
    (up : node.running ≡ true) (c : ClientId) (site : WorldClient) (there : site_of w c ≡ Some site) (runs : site.node.running ≡ true) where
  pub z : ServerStands k w s.0 node
  z = a.servers s.0 node at

  -- the client's association with the server
  pub has : Standing k s.0 c.0 site w.ended (z.ghosts c.0).net
  has = z.both.clients c.0 site there

  abbrev view : net.Client
  view = client_of (z.ended c.0) (clock_of w (nodes.Client c)).0 has.association

  abbrev half : net.Server
  half = half_of c (clock_of w (nodes.Server s)) node.running node.state (z.ghosts c.0)

  abbrev both : Assoc
  both = record { c = view; s = half; net = (z.ghosts c.0).net }

  seen : client_in w c.0 s.0 (z.ended c.0) ≡ view
  seen = own_view w c.0 s.0 (z.ended c.0) site has.association there runs has.sim.place

  inv : Invariant k both
  inv = subst (λ (x : net.Client). Invariant k (record { c = x; s = half; net = (z.ghosts c.0).net })) seen
      (invariant k (pairs s.0 z.ended w node z.ghosts) a.sound z.both.stands.reached c.0)

  so : Sound c.0 k.wait (clock_of w (nodes.Server s)) node.state (z.ghosts c.0)
  so = sound_of c.0 k.wait (clock_of w (nodes.Server s)) node.running node.state (z.ghosts c.0) up (z.both.stands.served c.0).stands

  low : (life epoch stamp i g to : ℕ) → In (msg life epoch stamp (Released i g to)) (z.ghosts c.0).net → g ≤ given node.state
  low life epoch stamp i g to j =
      let y : g ≤ (z.ghosts c.0).top = low_reached k (pairs s.0 z.ended w node z.ghosts) a.sound z.both.stands.reached c.0 _ j in
      let x = so.top in omega (arith, y, x)

  -- a row has a session
  pub row_met : (ino : ℕ) (r : LockRow) → row_of node.state.locks c ino ≡ Some r → r.life.0 ≡ has.association.life.0 → is_some has.association.session ≡ true
  row_met ino r e l = some_leased has.association.session (inv.asked.rows ino (subst (λ o. 1 ≤ (row_or (row_view o)).mode) (sym e)
      (z.both.stands.compat.rows c ino r e)) (subst (λ o. (row_or (row_view o)).life ≡ has.association.life.0) (sym e) l)).leased
    where
      some_leased : (o : Option ClientSession) → leased_in o ≡ true → is_some o ≡ true
      some_leased None f = cc
      some_leased (Some v) f = refl

  module _ (v : ClientSession) (with_it : has.association.session ≡ Some v) where
    kept : KeptIn has.association.life.0 has.association.store v (z.ghosts c.0).net
    kept = subst (λ o. Kept has.association.life.0 has.association.store o (z.ghosts c.0).net) with_it has.sim.kept

    -- a release that waits, and one that was asked, is under a number that was given
    pub waiting_given : (r : Release) → Has r v.releases → r.g.0 ≤ given node.state
    waiting_given r h = low has.association.life.0 v.epoch.0 0 r.ino r.g.0 (released_to r.to)
        (waiting_in has.association.life.0 v.epoch.0 v.releases (z.ghosts c.0).net kept.queue r h)

    pub asked_given : (q : Request) → v.requests.asked ≡ Some q → (ino : ℕ) (g : GrantNo) (to : Mode) → q.body ≡ bodies.Released ino g to → g.0 ≤ given node.state
    asked_given q e ino g to b =
        let y = subst (λ o. Outstanding has.association.life.0 v.epoch.0 v.due o (z.ghosts c.0).net) e kept.asked in
        let x = subst (λ d. Shows has.association.life.0 v.epoch.0 y.stamp (shown q.number d) (z.ghosts c.0).net) b y.before in
        low has.association.life.0 v.epoch.0 y.stamp ino g.0 (released_to to) x.rest.one

    -- a held lock is under no later number than the row
    pub held_covered : v.epoch.0 ≡ node.state.stable.epoch.0 → (y : Session) → sessions.session_of node.state.sessions c ≡ Some y →
        y.life.0 ≡ has.association.life.0 → (clock_of w (nodes.Client c)).0 < v.lease.date.0 + k.lease →
        (ino : ℕ) (l : HeldLock) → lock_of v.locks ino ≡ Some l → (r : LockRow) → row_of node.state.locks c ino ≡ Some r → l.g.0 ≤ r.g.0
    held_covered ep y is life lasts ino l e r f =
        go (inv.locks_.held up (ap epoch_in with_it ∙ ep) (ap life_view is ∙ life) ino some)
      where
        held : held_in has.association.session ino ≡ held_at (Some l)
        held = ap (λ o. held_in o ino) with_it ∙ ap held_at e

        some : 1 ≤ (held_in has.association.session ino).mode
        some = subst (λ (x : net.Lock). 1 ≤ x.mode) (sym held) (mode_found (is_lock_on ino) v.locks.rows l kept.modes e)

        alive : Alive k view
        alive = record { leased = ap leased_in with_it; lasts = let x = ap date_in with_it in omega (arith, x, lasts) }

        go : Covered has.association.life.0 (row_or (row_view (row_of node.state.locks c ino))) (held_in has.association.session ino).g
            (held_in has.association.session ino).mode ⊎ Lost k both → l.g.0 ≤ r.g.0
        go (inl x) =
            let n = x.at_least in
            let h = ap (λ (x : net.Lock). x.g) held in
            let g = ap (λ o. (row_or (row_view o)).g) f in
            omega (arith, n, h, g)
        go (inr x) = absurd (not_lost k both inv.timing_ alive x)
