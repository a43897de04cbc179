-- An event of the world, walked once for what it leaves: from what a step of a client and of a server, a crash and a start leave, and from every
-- world with the same clients, servers and messages.
use Rattle.st_lemmas.proofs.Words
use Words.{◌≡◌, ℕ, ◌+◌, Bool, true, false, [], Option, Some, None, Ok, Err, refl, sym, ap, subst, if◌then◌else◌, map, ClientId, ServerId, NodeId, Ask, Message}
use Words.{Event, ClientInput, ServerInput, IssuedCommand, SentMessage}
use Words.nodes
use Words.events
use Words.inputs
use Words.serving
use Words.Client as cl
use Words.ClientState.{ClientTurn}
use Words.Events as ev
use Words.Events.{WorldTurn, world_step, server_says_all}
use Words.Server as server
use Words.Server.{ServerNode}
use Words.World as world
use Words.World.{World, WorldClient, site_of, node_of, clock_of}
use Words.Safety.{steps}
use Words.Lists.{Has}
use Words.Numbers.{numbered_has}
use Words.Tables.{has_map_in}
use Rattle.st_rules.specs.declared.node.StepRefusal.TheVariants.{Crashed}
use Rattle.st_laws_leases.specs.Dates.Dates.{message_in, messages}
use Rattle.st_laws_leases.proofs.Dates.Leaving.{Leaves, client_leaves, lost_same, server_leaves}
use Rattle.st_lemmas.proofs.Steps.{step_happens}
use Rattle.st_laws_requests.specs.Replies.ServedRequests.{AtMessage, AtReceiver, AtServer, InputNew, NewOwed}

-- a message that comes to a client, or to a server, was sent
abbrev pub Comes : World → ClientInput → Type 0
Comes t (inputs.Control m) = Has m (messages t)
Comes t i = Unit {0}

abbrev pub Brings : World → ServerInput → Type 0
Brings t serving.Tick = Unit {0}
Brings t (serving.Control m) = Has m (messages t)

-- the step of a client, and its place after it
abbrev pub ClientTook : World → ClientId → ClientInput → WorldClient → ClientTurn
ClientTook v c i site = cl.client_step site.node.state (clock_of v (nodes.Client c)) i

abbrev pub SiteAfter : World → ClientId → ClientInput → WorldClient → WorldClient
SiteAfter v c i site = ev.at_node (record site.node { state = (ClientTook v c i site).state }) site

-- the step of a server, its node after it, and the world that it leaves
abbrev pub ServerTook : World → ServerId → ServerInput → ServerNode → server.ServerTurn
ServerTook t s i node = server.server_step node.state (clock_of (ev.counted t) (nodes.Server s)) i

abbrev pub NodeAfter : World → ServerId → ServerInput → ServerNode → ServerNode
NodeAfter t s i node = record node { state = (ServerTook t s i node).state }

abbrev pub ServerLeft : World → ServerId → ServerInput → ServerNode → WorldTurn
ServerLeft t s i node = server_says_all s (ServerTook t s i node).out (ev.quiet (ev.with_node s (NodeAfter t s i node) (ev.counted t)))

-- An event, and what is known of the input that a server takes in it.
module _ (t : World) (e : Event) (B : ServerInput → Type 0) (ticks_one : (s : ServerId) → e ≡ events.Tick (nodes.Server s) → B serving.Tick)
    (delivers_one : (k : ℕ) (m : SentMessage) → e ≡ events.Deliver k → world.message_of t k ≡ Some m → B (serving.Control m.message)) (R : World → Type 0)
    (alike : (v : World) → v.clients ≡ t.clients → v.servers ≡ t.servers → messages v ≡ messages t → R v)
    (client_step : (v : World) → v.clients ≡ t.clients → v.servers ≡ t.servers → (c : ClientId) (i : ClientInput) (site old : WorldClient) → site.node ≡ old.node → site.node.running ≡ true → site_of t c ≡ Some old → Comes t i →
    (last : World) → Leaves (messages t) (ev.with_site c (SiteAfter v c i site) v) last (ClientTook v c i site).out → R last)
    (server_step : (s : ServerId) (i : ServerInput) (node : ServerNode) → node_of t s ≡ Some node → node.running ≡ true → B i →
    InputNew (server.thefts (server.turn node.state []) (clock_of (ev.counted t) (nodes.Server s))) (clock_of (ev.counted t) (nodes.Server s)) i →
    Leaves (messages t) (ev.with_node s (NodeAfter t s i node) (ev.counted t)) (ServerLeft t s i node).world (ServerTook t s i node).out → R (ServerLeft t s i node).world)
    (stopped : (c : ClientId) (site : WorldClient) → site_of t c ≡ Some site → R (ev.crashes_client (ev.counted t) c (Some site)).world)
    (begun : (c : ClientId) (site : WorldClient) → site_of t c ≡ Some site → R (ev.starts_client (ev.counted t) c (Some site)))
    (crashed : (s : ServerId) (node : ServerNode) → node_of t s ≡ Some node → R (ev.crashes_server (ev.counted t) s (Some node)))
    (started : (s : ServerId) (node : ServerNode) → node_of t s ≡ Some node → R (ev.starts_server (ev.counted t) s (Some node))) where
  w : World
  w = ev.counted t

  takes : (v : World) → v.clients ≡ t.clients → v.servers ≡ t.servers → v.net ≡ t.net → (c : ClientId) (i : ClientInput) (site old : WorldClient) → site.node ≡ old.node → site_of t c ≡ Some old → Comes t i →
      R (ev.client_takes v c i site).world
  unfolding ev.client_takes ev.client_took cl.node_step
  takes v cs ss net c i site old same at k = go site.node.running refl
    where
      u : ClientTurn
      u = ClientTook v c i site

      before : messages v ≡ messages t
      before = ap (λ (n : world.Net). map message_in n.messages) net

      a : WorldTurn
      a = ev.quiet (ev.with_site c (SiteAfter v c i site) v)

      go : (b : Bool) → site.node.running ≡ b → R (ev.client_took v c site (if b then Ok (cl.node_turn site.node u) else Err Crashed)).world
      go true run = client_step v cs ss c i site old same run at k _ (client_leaves (messages t) c site.node.state u.state u.out a before)
      go false run = alike v cs ss before

  serves : (s : ServerId) (i : ServerInput) (node : ServerNode) → node_of t s ≡ Some node → B i → InputNew (server.thefts (server.turn node.state []) (clock_of w (nodes.Server s))) (clock_of w (nodes.Server s)) i →
      R (ev.server_takes w s i node).world
  unfolding ev.server_takes ev.server_took server.node_step w
  serves s i node at k owed = go node.running refl
    where
      go : (b : Bool) → node.running ≡ b → R (ev.server_took w s (if b then Ok (server.node_turn node (ServerTook t s i node)) else Err Crashed)).world
      go true run = server_step s i node at run k owed (server_leaves s (ServerTook t s i node).out (ev.quiet (ev.with_node s (NodeAfter t s i node) w)))
      go false run = alike w refl refl refl

  at_client : (c : ClientId) (i : ClientInput) → Comes t i → R (ev.at_client w c i (site_of w c)).world
  unfolding ev.at_client w
  at_client c i k = go (site_of w c) refl
    where
      go : (o : Option WorldClient) → site_of w c ≡ o → R (ev.at_client w c i o).world
      go None r = alike w refl refl refl
      go (Some site) r = takes w refl refl refl c i site site refl r k

  at_server : (s : ServerId) (i : ServerInput) → B i → ((node : ServerNode) → node_of w s ≡ Some node → InputNew (server.thefts (server.turn node.state []) (clock_of w (nodes.Server s))) (clock_of w (nodes.Server s)) i) → R (ev.at_server w s i (node_of w s)).world
  unfolding ev.at_server w
  at_server s i k owed = go (node_of w s) refl
    where
      go : (o : Option ServerNode) → node_of w s ≡ o → R (ev.at_server w s i o).world
      go None r = alike w refl refl refl
      go (Some node) r = serves s i node r k (owed node r)

  asks_happen : (c : ClientId) (ask : Ask) → R (ev.asks_at w c ask (site_of w c)).world
  unfolding ev.asks_at w
  asks_happen c ask = go (site_of w c) refl
    where
      go : (o : Option WorldClient) → site_of w c ≡ o → R (ev.asks_at w c ask o).world
      go None r = alike w refl refl refl
      go (Some site) r = takes w refl refl refl c (inputs.App (site.asks + 1) ask) (ev.asked_once_more site) site refl r tt

  delivers : (k : ℕ) → e ≡ events.Deliver k → AtMessage w (world.message_of w k) → R (ev.delivers w (world.message_of w k)).world
  unfolding ev.delivers ev.delivers_to w
  delivers k is = go (world.message_of w k) refl
    where
      to : (m : Message) (n : NodeId) → Has m (messages t) → B (serving.Control m) → AtReceiver w m n → R (ev.delivers_to w m n).world
      to m (nodes.Client c) h b f = at_client c (inputs.Control m) h
      to m (nodes.Server s) h b f = at_server s (serving.Control m) b (λ node q. subst (AtServer w m s) q f)

      go : (o : Option SentMessage) → world.message_of w k ≡ o → AtMessage w o → R (ev.delivers w o).world
      go None q f = alike w refl refl refl
      go (Some m) q f = to m.message (world.receiver_of m) (has_map_in message_in t.net.messages m (numbered_has t.net.messages k m q)) (delivers_one k m is q) f

  loses : (k : ℕ) → R (ev.loses_message w k (world.message_of w k))
  unfolding ev.loses_message w
  loses k = go (world.message_of w k) refl
    where
      go : (o : Option SentMessage) → world.message_of w k ≡ o → R (ev.loses_message w k o)
      go None q = alike w refl refl refl
      go (Some m) q = alike (ev.with_lost k m w) refl refl (lost_same w k m q)

  reports : (k : ℕ) (ok : Bool) → R (ev.reports_of w k ok).world
  unfolding ev.reports_of ev.tells ev.tells_client ev.tells_site w
  reports k ok = go (world.issued_of w k)
    where
      v : World
      v = ev.with_disks (ev.disks_after w.disks (Rattle.st_rules.specs.Disks.done w.disks k ok)) w

      none : R v
      none = alike v refl refl refl

      comes : (x : IssuedCommand) → Comes t (ev.end_told v k ok x)
      comes x = tt

      same : (x : IssuedCommand) (site : WorldClient) → site_of w x.client ≡ Some site → (b : Bool) → R (if b then ev.client_takes v x.client (ev.end_told v k ok x) site else ev.quiet v).world
      same x site q true = takes v refl refl refl x.client (ev.end_told v k ok x) site site refl q (comes x)
      same x site q false = none

      at : (x : IssuedCommand) (o : Option WorldClient) → site_of w x.client ≡ o → R (ev.tells_client v k ok x o).world
      at x None q = none
      at x (Some site) q = same x site q (ev.is_same_instance x site)

      go : (o : Option IssuedCommand) → R (ev.tells v k ok o).world
      go None = none
      go (Some x) = at x (site_of w x.client) refl

  crashes_client : (c : ClientId) → R (ev.crashes_client w c (site_of w c)).world
  unfolding ev.crashes_client ev.marks w
  crashes_client c = go (site_of w c) refl
    where
      go : (o : Option WorldClient) → site_of w c ≡ o → R (ev.crashes_client w c o).world
      go None q = alike w refl refl refl
      go (Some site) q = stopped c site q

  starts_client : (c : ClientId) → R (ev.starts_client w c (site_of w c))
  unfolding ev.starts_client w
  starts_client c = go (site_of w c) refl
    where
      go : (o : Option WorldClient) → site_of w c ≡ o → R (ev.starts_client w c o)
      go None q = alike w refl refl refl
      go (Some site) q = begun c site q

  crashes_server : (s : ServerId) → R (ev.crashes_server w s (node_of w s))
  unfolding ev.crashes_server w
  crashes_server s = go (node_of w s) refl
    where
      go : (o : Option ServerNode) → node_of w s ≡ o → R (ev.crashes_server w s o)
      go None q = alike w refl refl refl
      go (Some node) q = crashed s node q

  starts_server : (s : ServerId) → R (ev.starts_server w s (node_of w s))
  unfolding ev.starts_server w
  starts_server s = go (node_of w s) refl
    where
      go : (o : Option ServerNode) → node_of w s ≡ o → R (ev.starts_server w s o)
      go None q = alike w refl refl refl
      go (Some node) q = started s node q

  happens : (x : Event) → e ≡ x → NewOwed w x → R (ev.happens w x).world
  unfolding ev.happens ev.ticks ev.crashes ev.starts ev.advances ev.effects ev.marks w
  happens (events.Tick (nodes.Client c)) is f = at_client c inputs.Tick tt
  happens (events.Tick (nodes.Server s)) is f = at_server s serving.Tick (ticks_one s is) (λ node q. tt)
  happens (events.App c ask) is f = asks_happen c ask
  happens (events.Deliver k) is f = delivers k is f
  happens (events.Lose k) is f = loses k
  happens (events.Cut from to) is f = alike (ev.happens w (events.Cut from to)).world refl refl refl
  happens (events.Heal from to) is f = alike (ev.happens w (events.Heal from to)).world refl refl refl
  happens (events.Advance steps) is f = alike (ev.happens w (events.Advance steps)).world refl refl refl
  happens (events.Effect k) is f = alike (ev.happens w (events.Effect k)).world refl refl refl
  happens (events.Report k ok) is f = reports k ok
  happens (events.Crash (nodes.Client c)) is f = crashes_client c
  happens (events.Crash (nodes.Server s)) is f = crashes_server s
  happens (events.Start (nodes.Client c)) is f = starts_client c
  happens (events.Start (nodes.Server s)) is f = starts_server s

  -- an event that happens
  pub event_brings : (sc : WorldTurn) → NewOwed (ev.counted t) e → world_step t e ≡ Ok sc → R sc.world
  unfolding w
  event_brings sc f h = let z = step_happens t e sc h in subst (λ (x : WorldTurn). R x.world) (sym z.1) (happens e refl f)

-- An event, when a message that a server takes was sent.
module _ (t : World) (R : World → Type 0)
    (alike : (v : World) → v.clients ≡ t.clients → v.servers ≡ t.servers → messages v ≡ messages t → R v)
    (client_step : (v : World) → v.clients ≡ t.clients → v.servers ≡ t.servers → (c : ClientId) (i : ClientInput) (site old : WorldClient) → site.node ≡ old.node → site.node.running ≡ true → site_of t c ≡ Some old → Comes t i →
    (last : World) → Leaves (messages t) (ev.with_site c (SiteAfter v c i site) v) last (ClientTook v c i site).out → R last)
    (server_step : (s : ServerId) (i : ServerInput) (node : ServerNode) → node_of t s ≡ Some node → node.running ≡ true → Brings t i →
    InputNew (server.thefts (server.turn node.state []) (clock_of (ev.counted t) (nodes.Server s))) (clock_of (ev.counted t) (nodes.Server s)) i →
    Leaves (messages t) (ev.with_node s (NodeAfter t s i node) (ev.counted t)) (ServerLeft t s i node).world (ServerTook t s i node).out → R (ServerLeft t s i node).world)
    (stopped : (c : ClientId) (site : WorldClient) → site_of t c ≡ Some site → R (ev.crashes_client (ev.counted t) c (Some site)).world)
    (begun : (c : ClientId) (site : WorldClient) → site_of t c ≡ Some site → R (ev.starts_client (ev.counted t) c (Some site)))
    (crashed : (s : ServerId) (node : ServerNode) → node_of t s ≡ Some node → R (ev.crashes_server (ev.counted t) s (Some node)))
    (started : (s : ServerId) (node : ServerNode) → node_of t s ≡ Some node → R (ev.starts_server (ev.counted t) s (Some node))) where
  -- an event that happens
  pub event_leaves : (e : Event) (sc : WorldTurn) → NewOwed (ev.counted t) e → world_step t e ≡ Ok sc → R sc.world
  event_leaves e sc =
      event_brings t e (Brings t) (λ s q. tt) (λ k m q r. has_map_in message_in t.net.messages m (numbered_has t.net.messages k m r)) R alike client_step server_step stopped begun crashed started sc
