-- Every event: a server takes a step; or extents and what servers keep and said of them stay.
use Rattle.st_lemmas.proofs.Words
use Words.{◌≡◌, ◌≢◌, ℕ, ◌≤◌, ◌⊎◌, true, false, List, [], Option, Some, None, Ok, refl, sym, ap, ◌∙◌, subst, inl, inr, arith, length, ExtentRow, Session}
use Words.{ClientId, ServerId, Message, Event, ClientInput, ServerInput, Note, Output, ◌∷◌}
use Words.nodes
use Words.serving
use Words.Keys.{server_node}
use Words.Client as cl
use Words.ClientState.{ClientTurn}
use Words.Events as ev
use Words.Events.{WorldTurn, world_step, server_says, server_says_all, cuts, sends, server_notes}
use Words.History.{Traced}
use Words.Server as server
use Words.Server.{ServerNode}
use Words.World as world
use Words.World.{World, WorldClient, site_of, node_of, numbered, with_numbered, clock_of}
use Words.Safety.{Step}
use Words.Lists.{Has}
use Words.Numbers.{numbered_below}
use Words.notes
use Words.outputs
use Rattle.st_laws_extents.specs.ExtentReplies.Steps.{KeptRows}
use Rattle.st_laws_leases.specs.Dates.Dates.{ClientDated, messages}
use Rattle.st_laws_requests.specs.Replies.ServedRequests.{InputNew, NewOwed}
use Rattle.st_laws_requests.proofs.Replies.EachEvent.{Brings, ClientTook, Comes, NodeAfter, ServerLeft, ServerTook, SiteAfter, event_leaves}
use Rattle.st_laws_requests.proofs.Replies.Replies.{RepliesHold}
use Rattle.st_laws_requests.proofs.Replies.Served.{Served, served}
use Rattle.st_laws_extents.specs.ExtentReplies.Events.{EventTells, NodeStays}
use Rattle.st_laws_leases.proofs.Dates.Leaving.{Leaves, leaves_from, set_cases}
use Rattle.st_laws_extents.proofs.CutRequests.ServersGoOn.{lived_held}

-- what a server says leaves the clocks
says_one : (s : ServerId) (o : Output) (sc : WorldTurn) → (server_says sc s o).world.clocks ≡ sc.world.clocks
unfolding server_says server_notes cuts sends
says_one s (outputs.Send m) sc = refl
says_one s (outputs.Note n) sc = note n
  where
    note : (n : Note) → (server_notes sc s n).world.clocks ≡ sc.world.clocks
    note (notes.Suspected c start) = refl
    note (notes.Stolen c life) = refl
    note (notes.CutDone f p) = refl
    note n = refl
says_one s o sc = refl

says_clocks : (s : ServerId) (os : List Output) (sc : WorldTurn) → (server_says_all s os sc).world.clocks ≡ sc.world.clocks
unfolding server_says_all
says_clocks s [] sc = refl
says_clocks s (o ∷ os) sc = says_clocks s os (server_says sc s o) ∙ says_one s o sc

-- a node that is as it was
node_same : (n : ServerNode) → NodeStays n n
node_same n = record { extents = refl; kept = λ run c life number ino rows k. (run, k, refl) }

module _ (past : List Step) (t : Traced) (r : RepliesHold past t) (few : length t.world.clients ≤ 16) where
  w : World
  w = ev.counted t.world

  still : (v : World) → v.servers ≡ t.world.servers → messages v ≡ messages t.world → EventTells t.world v
  still v ss ms = inl (record { nodes = λ s p q. (p, ap (λ xs. numbered xs s.0) (sym ss) ∙ q, node_same p); messages = λ m h s e. subst (Has m) ms h })

  nodes_placed : (s : ServerId) (old new : ServerNode) (v : World) → node_of t.world s ≡ Some old → v.servers ≡ with_numbered s.0 new t.world.servers → NodeStays old new →
      (x : ServerId) (p : ServerNode) → node_of v x ≡ Some p → (n : ServerNode) × (node_of t.world x ≡ Some n) × NodeStays n p
  nodes_placed s old new v at ss g x p q = it (set_cases t.world.servers s.0 x.0 old new p at (ap (λ xs. numbered xs x.0) (sym ss) ∙ q))
    where
      it : ((x.0 ≡ s.0) × (p ≡ new)) ⊎ ((x.0 ≢ s.0) × (node_of t.world x ≡ Some p)) → (n : ServerNode) × (node_of t.world x ≡ Some n) × NodeStays n p
      it (inl z) = (old, ap (λ n. numbered t.world.servers n) z.0 ∙ at, subst (NodeStays old) (sym z.1) g)
      it (inr z) = (p, z.1, node_same p)

  placed : (s : ServerId) (old new : ServerNode) (v : World) → node_of t.world s ≡ Some old → v.servers ≡ with_numbered s.0 new t.world.servers → messages v ≡ messages t.world → NodeStays old new → EventTells t.world v
  placed s old new v at ss ms g = inl (record { nodes = nodes_placed s old new v at ss g; messages = λ m h x e. subst (Has m) ms h })

  -- A step of a client.
  client_step : (v : World) → v.servers ≡ t.world.servers → (c : ClientId) (i : ClientInput) (site old : WorldClient) → site.node ≡ old.node → site_of t.world c ≡ Some old → Comes t.world i →
      (last : World) → Leaves (messages t.world) (ev.with_site c (SiteAfter v c i site) v) last (ClientTook v c i site).out → EventTells t.world last
  client_step v ss c i site old same at k last l =
      inl (record { nodes = λ s p q. (p, ap (λ xs. numbered xs s.0) (sym ss ∙ sym l.servers) ∙ q, node_same p); messages = λ m h s e. sent m (leaves_from (messages t.world) (ev.with_site c (SiteAfter v c i site) v) last u.out l m h) s e })
    where
      u : ClientTurn
      u = ClientTook v c i site

      below : c.0 ≤ 16
      below = let z = (numbered_below t.world.clients c.0 old at).1 in omega (arith, z, few)

      -- a client isn't a server
      sent : (m : Message) → Has m (messages t.world) ⊎ Has (outputs.Send m) u.out → (s : ServerId) → m.header.from ≡ server_node s → Has m (messages t.world)
      sent m (inl h) s e = h
      sent m (inr h) s e =
          let held = lived_held t.world c (clock_of v (nodes.Client c)) site.node.state i k (subst (λ (n : cl.ClientNode). ClientDated (messages t.world) c n.state) (sym same) (r.dated.clients c old at)) in
          let z = (held.outs m h).from in let b = below in absurd (omega (arith, z, e, b))

  -- A step of a server.
  server_step : (s : ServerId) (i : ServerInput) (node : ServerNode) → node_of t.world s ≡ Some node → node.running ≡ true →
      InputNew (server.thefts (server.turn node.state []) (clock_of w (nodes.Server s))) (clock_of w (nodes.Server s)) i → ((m : Message) → i ≡ serving.Control m → Has m (messages t.world)) →
      Leaves (messages t.world) (ev.with_node s (NodeAfter t.world s i node) w) (ServerLeft t.world s i node).world (ServerTook t.world s i node).out → EventTells t.world (ServerLeft t.world s i node).world
  unfolding w
  server_step s i node at run owed comes l =
      inr (record {
        server = s;
        node = node;
        there = at;
        running = run;
        now = clock_of w (nodes.Server s);
        input = i;
        comes = comes;
        clients = l.clients;
        clocks = says_clocks s u.out (ev.quiet (ev.with_node s (NodeAfter t.world s i node) w));
        servers = l.servers;
        messages = leaves_from (messages t.world) (ev.with_node s (NodeAfter t.world s i node) w) (ServerLeft t.world s i node).world u.out l;
        says = λ m h. (k.sent m h).0;
        dated = λ m h. (k.sent m h).1;
        epoch = ap (λ (y : Rattle.st_base.specs.declared.ids.Epoch.Epoch). y.0) k.epoch;
      })
    where
      u : server.ServerTurn
      u = ServerTook t.world s i node

      k : Served s node.state.stable.epoch i node.state.sessions u
      k = served s node.state.stable.epoch i node.state.sessions node.state (clock_of w (nodes.Server s)) owed (record { id = (r.dated.servers s node at).id; epoch = refl; goes = λ c life n h. h; sent = λ y h. absurd h })

  -- Crashes and starts.
  -- a message that comes to a server was sent
  brought : (i : ServerInput) → Brings t.world i → (m : Message) → i ≡ serving.Control m → Has m (messages t.world)
  brought serving.Tick k m e = cc e
  brought (serving.Control n) k m e = subst (λ x. Has x (messages t.world)) (input_is n m e) k
    where
      input_is : (n m : Message) → serving.Control n ≡ serving.Control m → n ≡ m
      input_is n m e = cc

  stopped : (c : ClientId) (site : WorldClient) → site_of t.world c ≡ Some site → EventTells t.world (ev.crashes_client w c (Some site)).world
  unfolding ev.crashes_client ev.marks w cl.crash
  stopped c site q = still (ev.crashes_client w c (Some site)).world refl refl

  begun : (c : ClientId) (site : WorldClient) → site_of t.world c ≡ Some site → EventTells t.world (ev.starts_client w c (Some site))
  unfolding ev.starts_client w cl.start
  begun c site q = still (ev.starts_client w c (Some site)) refl refl

  off : {A : Type 0} → false ≡ true → A
  off e = cc

  crashed : (s : ServerId) (node : ServerNode) → node_of t.world s ≡ Some node → EventTells t.world (ev.crashes_server w s (Some node))
  unfolding ev.crashes_server server.crash w
  crashed s node q = placed s node (server.crash_node node) (ev.crashes_server w s (Some node)) q refl refl (record { extents = refl; kept = λ run. off run })

  started : (s : ServerId) (node : ServerNode) → node_of t.world s ≡ Some node → EventTells t.world (ev.starts_server w s (Some node))
  unfolding ev.starts_server server.start server.begin_epoch w
  started s node q =
      placed s node (server.start_node node (clock_of w (nodes.Server s))) (ev.starts_server w s (Some node)) q refl refl
      (record { extents = refl; kept = λ run c life number ino rows k. absurd (empty c life number ino rows k) })
    where
      empty : {e : Rattle.st_base.specs.declared.ids.Epoch.Epoch} (c : ClientId) (life number ino : ℕ) (rows : List ExtentRow) → KeptRows (Rattle.st_rules.specs.Sessions.no_sessions e) c life number ino rows → ⊥
      empty c life number ino rows k = none k.session k.is
        where
          none : (y : Session) → ◌≡◌ {A = Option Session} None (Some y) → ⊥
          none y q = cc

  -- Every event.
  pub event_tells : (e : Event) (sc : WorldTurn) → NewOwed (ev.counted t.world) e → world_step t.world e ≡ Ok sc → EventTells t.world sc.world
  unfolding w
  event_tells = event_leaves t.world (λ v. EventTells t.world v) (λ v cs ss ms. still v ss ms) (λ v cs ss c i site old same run at k. client_step v ss c i site old same at k) (λ s i node at run k owed l. server_step s i node at run owed (brought i k) l) stopped begun crashed started
