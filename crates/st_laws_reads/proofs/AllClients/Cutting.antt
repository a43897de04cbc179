-- A cut is free: the only client that has the file asks for it, and no other client has a lock on the file.
use Rattle.st_lemmas.proofs.Words
use Words.{◌≡◌, ◌≢◌, ◌⊎◌, ℕ, ◌≤◌, zero, suc, Bool, true, false, List, [], ◌∷◌, ◌++◌, Option, Some, None, Ok, Err, refl, sym, ap, ◌∙◌, subst, inl, inr, arith}
use Words.{if◌then◌else◌, FileId, NodeId, PageNo, ServerId, Event, Message, Note, Output, ServerInput, LockRow, Observation, SentMessage}
use Words.nodes
use Words.events
use Words.notes
use Words.outputs
use Words.serving
use Words.seen
use Words.ClientState.{Association}
use Words.Events as ev
use Words.Events.{WorldTurn}
use Words.Keys.{client}
use Words.Locks as locks
use Words.Server as server
use Words.Server.{ServerNode, thefts, turn}
use Words.World.{World, WorldClient, clock_of, message_of, node_of, numbered, receiver_of}
use Words.Lists.{Has}
use Words.Lookups.{some_is}
use Words.Numbers.{numbered_own}
use Words.Tables.{same_or_not}
use Rattle.st_base.specs.Mode.{number_of}
use Rattle.st_rules.specs.declared.node.StepRefusal.TheVariants.{Crashed}
use Rattle.st_protocol.specs.Assoc as net
use Rattle.st_protocol.specs.Assoc.{Alive, ByHeld, ByRow, Config, Frozen, InService}
use Rattle.st_protocol.proofs.Claims.{in_service}
use Rattle.st_protocol.proofs.World as assoc
use Rattle.st_laws_refine.specs.Views.Halves.{held_in, row_or, row_view}
use Rattle.st_laws_refine.specs.Client.Invariants.{Lasts}
use Rattle.st_laws_steps.specs.Lives.Lives.{clock_in}
use Rattle.st_laws_pages.specs.LockedCuts.CutLocks.{AtMessage, AtReassertion, AtReceiver, CutHeld, CutsHeld, IsHeld, WaitsHold, WaitsOwed}
use Rattle.st_laws_pages.proofs.LockedCuts.RowWalk.{InputAlone, step_rows}
use Rattle.st_laws_refine.specs.Server.Invariants.{pairs}
use Rattle.st_laws_leases.specs.Sides.World.{AllStand}
use Rattle.st_laws_reads.specs.Copies.Copies.{Nothing}
use Rattle.st_laws_reads.specs.AllClients.CutFiles.{AllCleared}
use Rattle.st_laws_reads.specs.AllClients.Events.{CutFree, CutFreeOf, MessageFree, OthersOwed, ReceiverFree, ServerFree, TurnFree}
use Rattle.st_laws_reads.specs.AllClients.Law.{Running}
use Rattle.st_laws_reads.specs.AllClients.Obligations.{CutAsked, HasAlone, OthersLeft}
use Rattle.st_laws_reads.proofs.AllClients.Alone.{leased_held, living, z}
use Rattle.st_laws_reads.proofs.AllClients.ClearPages.{nothing_of}
use Rattle.st_protocol.proofs.World.{frozen_or_not}

module _ (k : Config) (count : ℕ) (w : World) (a : AllStand k count w) (s : ℕ) (node : ServerNode) (at : node_of w (Rattle.st_rules.specs.World.server s) ≡ Some node) (runs : node.running ≡ true) where
  abbrev u : net.World
  u = pairs s (z k count w a s node at).ended w node (z k count w a s node at).ghosts

  abbrev st : assoc.All k u
  st = assoc.all k a.sound (z k count w a s node at).both.stands.reached

  foreign : (c d i : ℕ) → c ≢ d → 2 ≤ ((u.at c).s.row i).mode → Alive k (u.at d).c → (n : ℕ) → ((u.at d).c.held i).mode ≡ n → n ≡ 0
  foreign c d i ne two al zero e = refl
  foreign c d i ne two al (suc n) e = absurd (go (frozen_or_not (u.at 0).s))
    where
      go : Frozen (u.at 0).s ⊎ InService (u.at 0).s → ⊥
      go (inl f) = let y = st.claims f c d i ((u.at c).s.row i).mode ((u.at d).c.held i).mode ne (omega (arith, two)) (omega (arith, e)) (ByRow runs refl) (ByHeld al refl) in omega (arith, y, two, e)
      go (inr t) =
          let x = in_service k (u.at d) (st.own d).timing_ (st.own d).locks_ ((st.shared d 0).up ∙ t.up) ((st.shared d 0).grace ∙ t.grace) al i (omega (arith, e)) in
          let y = st.rows t c d i ne (omega (arith, two)) (omega (arith, x, e)) in omega (arith, y, two, x, e)

  -- the same of an association of a client that runs
  pub unheld : (c d i : ℕ) → c ≢ d → (row : LockRow) → locks.row_of node.state.locks (client c) i ≡ Some row → 2 ≤ number_of row.mode → (site : WorldClient) → Running w d site → (b : Association) → Has b site.node.state.associations →
      b.server ≡ Rattle.st_rules.specs.World.server s → Lasts site.node.state.config.lease (clock_of w (nodes.Client (client d))).0 b.session → (held_in b.session i).mode ≡ 0
  unheld c d i ne row is two site run b h e l = go (held_in b.session i).mode refl
    where
      there : 2 ≤ ((u.at c).s.row i).mode
      there = let q = ap (λ o. (row_or (row_view o)).mode) is in omega (arith, q, two)

      go : (n : ℕ) → (held_in b.session i).mode ≡ n → (held_in b.session i).mode ≡ 0
      go zero q = q
      go (suc n) q =
          let y = living k count w a s node at d site run b h e l (leased_held b.session i (omega (arith, q))) in
          let o = foreign c d i ne there y.alive ((u.at d).c.held i).mode refl in
          let m = y.mode i in omega (arith, o, m)

-- A cut that is asked, of a file of which somebody has an exclusive row, is free.
module _ (k : Config) (count : ℕ) (v : World) (all : AllStand k count v) (clear : AllCleared v) (f : FileId) (p : PageNo) (node : ServerNode) (at : node_of v f.server ≡ Some node) (runs : node.running ≡ true) (held : IsHeld f.ino node.state.locks) (asked : CutAsked v f p) where
  free_at : (d : ℕ) (site : WorldClient) → Running v d site → (a : Association) → Has a site.node.state.associations → Lasts site.node.state.config.lease (clock_of v (nodes.Client (client d))).0 a.session → f.server ≡ a.server →
      ((held_in a.session f.ino).mode ≡ 0) ⊎ ((q : PageNo) → p.0 ≤ q.0 → Nothing a.store f.ino q)
  free_at d site run a i l e = go (same_or_not held.client.0 d)
    where
      two : 2 ≤ number_of held.row.mode
      two = let q = ap number_of held.exclusive in omega (arith, q)

      mine : HasAlone v d f → (n : ℕ) → (held_in a.session f.ino).mode ≡ n → ((held_in a.session f.ino).mode ≡ 0) ⊎ ((q : PageNo) → p.0 ≤ q.0 → Nothing a.store f.ino q)
      mine h zero q = inl q
      mine h (suc n) q =
          let z = asked d site a run i e l h (omega (arith, q)) in
          inr (λ r le. let y = z.2 in nothing_of a.store f.ino z.0 (clear (client d) site run.there a i f.ino z.0 z.1) r (omega (arith, y, le)))

      go : (held.client.0 ≡ d) ⊎ (held.client.0 ≢ d) → ((held_in a.session f.ino).mode ≡ 0) ⊎ ((q : PageNo) → p.0 ≤ q.0 → Nothing a.store f.ino q)
      go (inr n) = inl (unheld k count v all f.server.0 node at runs held.client.0 d f.ino n held.row held.is two site run a i (sym e) l)
      go (inl q) = mine (record { node = node; there = at; row = held.row; is = subst (λ n. locks.row_of node.state.locks (client n) f.ino ≡ Some held.row) q held.is; exclusive = held.exclusive }) (held_in a.session f.ino).mode refl

  of_each : (d : ℕ) (site : WorldClient) → Running v d site → (xs : List Association) → ((a : Association) → Has a xs → Has a site.node.state.associations) → CutFreeOf f p site.node.state.config.lease (clock_of v (nodes.Client (client d))).0 xs
  of_each d site run [] h = record {}
  of_each d site run (a ∷ xs) h = record { one = λ l e. free_at d site run a (h a (inl refl)) l e; rest = of_each d site run xs (λ b i. h b (inr i)) }

  pub free : CutFree v f p
  free d site run = of_each d site run site.node.state.associations (λ a i. i)

-- What a server says.
record Said (w : World) (sc : WorldTurn) : Type 0 where
  clients : sc.world.clients ≡ w.clients
  clocks : sc.world.clocks ≡ w.clocks
  servers : sc.world.servers ≡ w.servers

said_one : (w : World) (s : ServerId) (o : Output) (sc : WorldTurn) → Said w sc → Said w (ev.server_says sc s o)
unfolding ev.server_says ev.server_notes ev.cuts ev.sends
said_one w s (outputs.Send m) sc h = record { clients = h.clients; clocks = h.clocks; servers = h.servers }
said_one w s (outputs.Note n) sc h = note n
  where
    note : (n : Note) → Said w (ev.server_notes sc s n)
    note (notes.Suspected c start) = record { clients = h.clients; clocks = h.clocks; servers = h.servers }
    note (notes.Stolen c life) = record { clients = h.clients; clocks = h.clocks; servers = h.servers }
    note (notes.CutDone f p) = record { clients = h.clients; clocks = h.clocks; servers = h.servers }
    note n = h
said_one w s o sc h = h

said_all : (w : World) (s : ServerId) (os : List Output) (sc : WorldTurn) → Said w sc → Said w (ev.server_says_all s os sc)
unfolding ev.server_says_all
said_all w s [] sc h = h
said_all w s (o ∷ os) sc h = said_all w s os (ev.server_says sc s o) (said_one w s o sc h)

-- a cut that is noted is seen
abbrev pub Seen : FileId → PageNo → WorldTurn → Type 0
Seen f p sc = (index : ℕ) × Has (seen.CutAt index f p) sc.seen

has_more : (os : List Observation) (o x : Observation) → Has x os → Has x (os ++ o ∷ [])
has_more [] o x i = absurd i
has_more (y ∷ os) o x (inl e) = inl e
has_more (y ∷ os) o x (inr i) = inr (has_more os o x i)

has_last : (os : List Observation) (o : Observation) → Has o (os ++ o ∷ [])
has_last [] o = inl refl
has_last (y ∷ os) o = inr (has_last os o)

seen_one : (f : FileId) (p : PageNo) (s : ServerId) (o : Output) (sc : WorldTurn) → Seen f p sc → Seen f p (ev.server_says sc s o)
unfolding ev.server_says ev.server_notes ev.cuts ev.sends
seen_one f p s (outputs.Send m) sc h = (h.0, has_more sc.seen _ _ h.1)
seen_one f p s (outputs.Note n) sc h = note n
  where
    note : (n : Note) → Seen f p (ev.server_notes sc s n)
    note (notes.Suspected c start) = (h.0, has_more sc.seen _ _ h.1)
    note (notes.Stolen c life) = (h.0, has_more sc.seen _ _ h.1)
    note (notes.CutDone g q) = (h.0, has_more sc.seen _ _ h.1)
    note n = h
seen_one f p s o sc h = h

seen_new : (f : FileId) (p : PageNo) (s : ServerId) (o : Output) (sc : WorldTurn) → outputs.Note (notes.CutDone f p) ≡ o → Seen f p (ev.server_says sc s o)
unfolding ev.server_says ev.server_notes ev.cuts
seen_new f p s o sc e = subst (λ (x : Output). Seen f p (ev.server_says sc s x)) e (_, has_last sc.seen _)

pub seen_all : (f : FileId) (p : PageNo) (s : ServerId) (os : List Output) (sc : WorldTurn) → Seen f p sc ⊎ Has (outputs.Note (notes.CutDone f p)) os → Seen f p (ev.server_says_all s os sc)
unfolding ev.server_says_all
seen_all f p s [] sc (inl h) = h
seen_all f p s [] sc (inr h) = absurd h
seen_all f p s (o ∷ os) sc (inl h) = seen_all f p s os (ev.server_says sc s o) (inl (seen_one f p s o sc h))
seen_all f p s (o ∷ os) sc (inr (inl e)) = seen_all f p s os (ev.server_says sc s o) (inl (seen_new f p s o sc e))
seen_all f p s (o ∷ os) sc (inr (inr h)) = seen_all f p s os (ev.server_says sc s o) (inr h)

held_at : (s : ServerId) (l : locks.Locks) (os : List Output) (f : FileId) (p : PageNo) → CutsHeld s l os → Has (outputs.Note (notes.CutDone f p)) os → (f.server ≡ s) × IsHeld f.ino l
held_at s l [] f p h i = absurd i
held_at s l (o ∷ os) f p h (inl e) = subst (CutHeld s l) (sym e) h.one
held_at s l (o ∷ os) f p h (inr i) = held_at s l os f p h.rest i

-- free in a world is free if clients and clocks are the same
free_there : (w v : World) (f : FileId) (p : PageNo) → v.clients ≡ w.clients → v.clocks ≡ w.clocks → CutFree v f p → CutFree w f p
free_there w v f p cs ts h d site run =
    subst (λ xs. CutFreeOf f p site.node.state.config.lease (clock_in xs (client d)).0 site.node.state.associations) ts (h d site (record { there = ap (λ zs. numbered zs d) cs ∙ run.there; runs = run.runs }))

-- A server's step.
module _ (k : Config) (count : ℕ) (w : World) (s : ServerId) (input : ServerInput) (sc : WorldTurn) (after : AllStand k count sc.world) (clear : AllCleared sc.world) (asked : (index : ℕ) (f : FileId) (p : PageNo) → Has (seen.CutAt index f p) sc.seen → CutAsked sc.world f p) (waits : WaitsHold w) where
  pub server_free : (o : Option ServerNode) → node_of w s ≡ o → ((n : ServerNode) → o ≡ Some n → InputAlone (thefts (turn n.state []) (clock_of w (nodes.Server s))) (clock_of w (nodes.Server s)) input) → sc ≡ ev.at_server w s input o → ServerFree w s input o
  unfolding ev.at_server ev.server_takes ev.server_took server.node_step
  server_free None there n is = tt
  server_free (Some node) there n is = go node.running refl is
    where
      t : server.ServerTurn
      t = server.server_step node.state (clock_of w (nodes.Server s)) input

      new : ServerNode
      new = (server.node_turn node t).node

      go : (b : Bool) → node.running ≡ b → sc ≡ ev.server_took w s (if b then Ok (server.node_turn node t) else Err Crashed) → TurnFree w (if b then Ok (server.node_turn node t) else Err Crashed)
      go false r q = tt
      go true r q = each
        where
          said : Said (ev.with_node s new w) sc
          said = subst (Said (ev.with_node s new w)) (sym q) (said_all (ev.with_node s new w) s t.out (ev.quiet (ev.with_node s new w)) (record { clients = refl; clocks = refl; servers = refl }))

          at : node_of sc.world s ≡ Some new
          at = ap (λ ns. numbered ns s.0) said.servers ∙ numbered_own w.servers s.0 new node there

          held : CutsHeld s t.state.locks t.out
          held = (step_rows s node.state (clock_of w (nodes.Server s)) input (waits s node there).id (waits s node there).waits (n node refl)).cuts

          each : (f : FileId) (p : PageNo) → Has (outputs.Note (notes.CutDone f p)) t.out → CutFree w f p
          each f p i =
              let h = held_at s t.state.locks t.out f p held i in
              let z = seen_all f p s t.out (ev.quiet (ev.with_node s new w)) (inr i) in
              free_there w sc.world f p said.clients said.clocks
              (free k count sc.world after clear f p new (subst (λ (x : ServerId). node_of sc.world x ≡ Some new) (sym h.0) at) r h.1 (asked z.0 f p (subst (λ (x : WorldTurn). Has (seen.CutAt z.0 f p) x.seen) (sym q) z.1)))

-- Every event at which no client takes an input.
module _ (k : Config) (count : ℕ) (w : World) (sc : WorldTurn) (after : AllStand k count sc.world) (clear : AllCleared sc.world) (asked : (index : ℕ) (f : FileId) (p : PageNo) → Has (seen.CutAt index f p) sc.seen → CutAsked sc.world f p) (waits : WaitsHold w) where
  by_node : (m : Message) (s : ServerId) (o : Option ServerNode) → AtReassertion w m s o → (n : ServerNode) → o ≡ Some n → InputAlone (thefts (turn n.state []) (clock_of w (nodes.Server s))) (clock_of w (nodes.Server s)) (serving.Control m)
  by_node m s None a n e = cc
  by_node m s (Some y) a n e = subst (λ (x : ServerNode). InputAlone (thefts (turn x.state []) (clock_of w (nodes.Server s))) (clock_of w (nodes.Server s)) (serving.Control m)) (some_is e) a

  by_receiver : (m : Message) (r : NodeId) → AtReceiver w m r → sc ≡ ev.delivers_to w m r → ReceiverFree w m r
  unfolding ev.delivers_to
  by_receiver m (nodes.Client c) a q = tt
  by_receiver m (nodes.Server s) a q = server_free k count w s (serving.Control m) sc after clear asked waits (node_of w s) refl (by_node m s (node_of w s) a) q

  by_message : (o : Option SentMessage) → AtMessage w o → sc ≡ ev.delivers w o → MessageFree w o
  unfolding ev.delivers
  by_message None a q = tt
  by_message (Some m) a q = by_receiver m.message (receiver_of m) a q

  pub others_owed : (e : Event) → WaitsOwed w e → sc ≡ ev.happens w e → OthersLeft w e → OthersOwed w e
  unfolding ev.happens ev.ticks
  others_owed (events.Tick (nodes.Server s)) a q o = server_free k count w s serving.Tick sc after clear asked waits (node_of w s) refl (λ n e. tt) q
  others_owed (events.Deliver n) a q o = by_message (message_of w n) a q
  others_owed (events.Crash (nodes.Client c)) a q o = o
  others_owed (events.Advance steps) a q o = o
  others_owed e a q o = tt
