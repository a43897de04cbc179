-- Every event: servers go on, and each new message of a client belongs to its present life, or a later one.
use Rattle.st_lemmas.proofs.Words
use Words.{◌≡◌, ◌≢◌, ℕ, ◌≤◌, ◌⊎◌, true, false, List, [], Some, Ok, refl, sym, ap, ◌∙◌, subst, inl, inr, arith, ClientId, ServerId, Stamp, Message, Event}
use Words.{ClientInput, ServerInput}
use Words.nodes
use Words.inputs
use Words.Keys.{server_node}
use Words.Client as cl
use Words.ClientState.{ClientTurn, Association, ClientState}
use Words.Events as ev
use Words.Events.{WorldTurn, world_step}
use Words.History.{Traced}
use Words.Server as server
use Words.Server.{ServerNode}
use Words.World as world
use Words.World.{World, WorldClient, site_of, node_of, numbered, with_numbered, clock_of}
use Words.Safety.{Step}
use Words.Lists.{Has}
use Words.outputs
use Rattle.st_laws_leases.specs.Dates.Dates.{ClientDated, messages}
use Rattle.st_laws_requests.specs.Replies.ServedRequests.{InputNew, NewOwed}
use Rattle.st_laws_requests.proofs.Replies.EachEvent.{ClientTook, Comes, NodeAfter, ServerLeft, ServerTook, SiteAfter, event_leaves}
use Rattle.st_laws_requests.proofs.Replies.Replies.{RepliesHold}
use Rattle.st_laws_extents.specs.CutRequests.EndedLives.{Goes, NodeGoes, SentBy}
use Rattle.st_laws_leases.proofs.Dates.Receiving as receiving
use Rattle.st_laws_leases.proofs.Dates.Receiving.{Held, step_held}
use Rattle.st_laws_requests.proofs.Replies.Served.{Served, served}
use Rattle.st_laws_leases.proofs.Dates.Leaving.{Leaves, leaves_from, set_cases}

-- a node that is as it was
node_same : (n : ServerNode) → NodeGoes n n
node_same n = record { up = omega arith; on = λ run e. (run, λ c life k h. h) }

-- a life of an association of the client, or a later one
abbrev pub Lived : ClientState → ServerId → ℕ → Type 0
Lived x s life = (a : Association) × Has a x.associations × (a.server ≡ s) × (a.life.0 ≤ life)

-- what a client's step sends is of such a life
pub lived_held : (t : World) (c : ClientId) (now : Stamp) (x : ClientState) (i : ClientInput) → Comes t i → ClientDated (messages t) c x →
    Held (messages t) c now (Lived x) (λ s life z. (z.0, z.1, z.2, let y = z.3 in omega (arith, y))) (cl.client_step x now i)
lived_held t c now x i k d = step_held (messages t) c now (Lived x) (λ s life z. (z.0, z.1, z.2, let y = z.3 in omega (arith, y))) x i (comes i k) d (λ a h. (a, h, refl, omega arith))
  where
    comes : (i : ClientInput) → Comes t i → receiving.Comes (messages t) c now (Lived x) (λ s life z. (z.0, z.1, z.2, let y = z.3 in omega (arith, y))) i
    comes inputs.Tick k = tt
    comes (inputs.App op ask) k = tt
    comes (inputs.Control m) k = k
    comes (inputs.Done number result) k = tt

module _ (past : List Step) (t : Traced) (r : RepliesHold past t) where
  w : World
  w = ev.counted t.world

  still : (v : World) → v.servers ≡ t.world.servers → messages v ≡ messages t.world → Goes t.world v
  still v ss ms = record { nodes = λ s p q. (p, ap (λ xs. numbered xs s.0) (sym ss) ∙ q, node_same p); messages = λ m h. inl (subst (Has m) ms h) }

  nodes_placed : (s : ServerId) (old new : ServerNode) (v : World) → node_of t.world s ≡ Some old → v.servers ≡ with_numbered s.0 new t.world.servers → NodeGoes old new →
      (x : ServerId) (p : ServerNode) → node_of v x ≡ Some p → (n : ServerNode) × (node_of t.world x ≡ Some n) × NodeGoes n p
  nodes_placed s old new v at ss g x p q = it (set_cases t.world.servers s.0 x.0 old new p at (ap (λ xs. numbered xs x.0) (sym ss) ∙ q))
    where
      it : ((x.0 ≡ s.0) × (p ≡ new)) ⊎ ((x.0 ≢ s.0) × (node_of t.world x ≡ Some p)) → (n : ServerNode) × (node_of t.world x ≡ Some n) × NodeGoes n p
      it (inl z) = (old, ap (λ n. numbered t.world.servers n) z.0 ∙ at, subst (NodeGoes old) (sym z.1) g)
      it (inr z) = (p, z.1, node_same p)

  placed : (s : ServerId) (old new : ServerNode) (v : World) → node_of t.world s ≡ Some old → v.servers ≡ with_numbered s.0 new t.world.servers → messages v ≡ messages t.world → NodeGoes old new → Goes t.world v
  placed s old new v at ss ms g = record { nodes = nodes_placed s old new v at ss g; messages = λ m h. inl (subst (Has m) ms h) }

  -- A step of a client.
  client_step : (v : World) → v.servers ≡ t.world.servers → (c : ClientId) (i : ClientInput) (site old : WorldClient) → site.node ≡ old.node → site.node.running ≡ true → site_of t.world c ≡ Some old → Comes t.world i →
      (last : World) → Leaves (messages t.world) (ev.with_site c (SiteAfter v c i site) v) last (ClientTook v c i site).out → Goes t.world last
  client_step v ss c i site old same run at k last l =
      record { nodes = λ s p q. (p, ap (λ xs. numbered xs s.0) (sym ss ∙ sym l.servers) ∙ q, node_same p); messages = λ m h. sent m (leaves_from (messages t.world) (ev.with_site c (SiteAfter v c i site) v) last u.out l m h) }
    where
      u : ClientTurn
      u = ClientTook v c i site

      sent : (m : Message) → Has m (messages t.world) ⊎ Has (outputs.Send m) u.out → Has m (messages t.world) ⊎ (((s : ServerId) × (m.header.from ≡ server_node s)) ⊎ SentBy t.world m)
      sent m (inl h) = inl h
      sent m (inr h) =
          let held = lived_held t.world c (clock_of v (nodes.Client c)) site.node.state i k (subst (λ (n : cl.ClientNode). ClientDated (messages t.world) c n.state) (sym same) (r.dated.clients c old at)) in
          let o = held.outs m h in let z = o.living in
          inr (inr (record {
            client = c;
            site = old;
            there = at;
            running = ap (λ (n : cl.ClientNode). n.running) (sym same) ∙ run;
            from = o.from;
            at = z.0;
            among = subst (λ (n : cl.ClientNode). Has z.0 n.state.associations) same z.1;
            to = o.to ∙ ap server_node (sym z.2);
            life = z.3;
          }))

  -- A step of a server.
  server_step : (s : ServerId) (i : ServerInput) (node : ServerNode) → node_of t.world s ≡ Some node → node.running ≡ true →
      InputNew (server.thefts (server.turn node.state []) (clock_of w (nodes.Server s))) (clock_of w (nodes.Server s)) i →
      Leaves (messages t.world) (ev.with_node s (NodeAfter t.world s i node) w) (ServerLeft t.world s i node).world (ServerTook t.world s i node).out → Goes t.world (ServerLeft t.world s i node).world
  unfolding w
  server_step s i node at run owed l =
      record { nodes = nodes_placed s node (NodeAfter t.world s i node) last at l.servers (record { up = omega (arith, same); on = λ run e. (run, λ c life n h. k.goes c life n h) }); messages = λ m h. from m (leaves_from (messages t.world) (ev.with_node s (NodeAfter t.world s i node) w) last u.out l m h) }
    where
      last : World
      last = (ServerLeft t.world s i node).world

      u : server.ServerTurn
      u = ServerTook t.world s i node

      k : Served s node.state.stable.epoch i node.state.sessions u
      k = served s node.state.stable.epoch i node.state.sessions node.state (clock_of w (nodes.Server s)) owed (record { id = (r.dated.servers s node at).id; epoch = refl; goes = λ c life n h. h; sent = λ y h. absurd h })

      same : u.state.stable.epoch.0 ≡ node.state.stable.epoch.0
      same = ap (λ (y : Rattle.st_base.specs.declared.ids.Epoch.Epoch). y.0) k.epoch

      from : (m : Message) → Has m (messages t.world) ⊎ Has (outputs.Send m) u.out → Has m (messages t.world) ⊎ (((s : ServerId) × (m.header.from ≡ server_node s)) ⊎ SentBy t.world m)
      from m (inl h) = inl h
      from m (inr h) = inr (inl (s, (k.sent m h).0))

  -- Crashes and starts.
  stopped : (c : ClientId) (site : WorldClient) → site_of t.world c ≡ Some site → Goes t.world (ev.crashes_client w c (Some site)).world
  unfolding ev.crashes_client ev.marks w cl.crash
  stopped c site q = still (ev.crashes_client w c (Some site)).world refl refl

  begun : (c : ClientId) (site : WorldClient) → site_of t.world c ≡ Some site → Goes t.world (ev.starts_client w c (Some site))
  unfolding ev.starts_client w cl.start
  begun c site q = still (ev.starts_client w c (Some site)) refl refl

  off : {A : Type 0} → false ≡ true → A
  off e = cc

  crashed : (s : ServerId) (node : ServerNode) → node_of t.world s ≡ Some node → Goes t.world (ev.crashes_server w s (Some node))
  unfolding ev.crashes_server server.crash w
  crashed s node q = placed s node (server.crash_node node) (ev.crashes_server w s (Some node)) q refl refl (record { up = omega arith; on = λ run. off run })

  started : (s : ServerId) (node : ServerNode) → node_of t.world s ≡ Some node → Goes t.world (ev.starts_server w s (Some node))
  unfolding ev.starts_server server.start server.begin_epoch w
  started s node q =
      placed s node (server.start_node node (clock_of w (nodes.Server s))) (ev.starts_server w s (Some node)) q refl refl
      (record { up = omega arith; on = λ run e. absurd (omega (arith, e)) })

  -- Every event.
  pub event_goes : (e : Event) (sc : WorldTurn) → NewOwed (ev.counted t.world) e → world_step t.world e ≡ Ok sc → Goes t.world sc.world
  unfolding w
  event_goes = event_leaves t.world (λ v. Goes t.world v) (λ v cs ss ms. still v ss ms) (λ v cs ss. client_step v ss) (λ s i node at run k. server_step s i node at run) stopped begun crashed started
