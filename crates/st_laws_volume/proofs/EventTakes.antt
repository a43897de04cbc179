-- An event of the world, walked once for what it leaves, with what a client takes in it.
use Rattle.st_lemmas.proofs.Words
use Words.{◌≡◌, ℕ, ◌+◌, Bool, true, false, Option, Some, None, Ok, Err, refl, sym, ap, subst, if◌then◌else◌, map}
use Words.{Ask, Block, ClientId, ClientInput, Event, IssuedCommand, NodeId, SentMessage, ServerId, ServerInput}
use Words.events
use Words.inputs
use Words.nodes
use Words.serving
use Words.Client as cl
use Words.ClientState.{ClientTurn}
use Words.Disks as disks
use Words.Events as ev
use Words.Events.{WorldTurn, world_step}
use Words.Numbers.{numbered_has}
use Words.Server as server
use Words.Server.{ServerNode}
use Words.Tables.{has_map_in}
use Words.World as world
use Words.World.{World, WorldClient, node_of, site_of}
use Rattle.st_rules.specs.declared.node.StepRefusal.TheVariants.{Crashed}
use Rattle.st_lemmas.proofs.Steps.{step_happens}
use Rattle.st_laws_leases.specs.Dates.Dates.{message_in, messages}
use Rattle.st_laws_leases.proofs.Dates.Leaving.{Leaves, client_leaves, lost_same, server_leaves}
use Rattle.st_laws_requests.proofs.Replies.EachEvent.{Brings, ClientTook, NodeAfter, ServerLeft, ServerTook, SiteAfter}
use Rattle.st_laws_volume.proofs.EventAnswers.{ByAsk, ByMessage, ByReport, ByTick, TakesAt}

module _ (t : World) (e : Event) (R : World → Type 0)
    (alike : (v : World) → v.clients ≡ t.clients → v.servers ≡ t.servers → messages v ≡ messages t →
    R v)
    (client_step : (v : World) → v.clients ≡ t.clients → v.servers ≡ t.servers →
    (c : ClientId) (i : ClientInput)
    (site old : WorldClient) → site.node ≡ old.node → site_of t c ≡ Some old → TakesAt t e c old i →
    (last : World) →
    Leaves (messages t) (ev.with_site c (SiteAfter v c i site) v) last (ClientTook v c i site).out →
    R last)
    (server_step : (s : ServerId) (i : ServerInput) (node : ServerNode) → node_of t s ≡ Some node →
    node.running ≡ true →
    Brings t i →
    Leaves (messages t) (ev.with_node s (NodeAfter t s i node) (ev.counted t))
    (ServerLeft t s i node).world
    (ServerTook t s i node).out → R (ServerLeft t s i node).world)
    (stopped : (c : ClientId) (site : WorldClient) → site_of t c ≡ Some site →
    R (ev.crashes_client (ev.counted t) c (Some site)).world)
    (begun : (c : ClientId) (site : WorldClient) → site_of t c ≡ Some site →
    R (ev.starts_client (ev.counted t) c (Some site)))
    (crashed : (s : ServerId) (node : ServerNode) → node_of t s ≡ Some node →
    R (ev.crashes_server (ev.counted t) s (Some node)))
    (started : (s : ServerId) (node : ServerNode) → node_of t s ≡ Some node →
    R (ev.starts_server (ev.counted t) s (Some node))) where
  w : World
  w = ev.counted t

  takes : (v : World) → v.clients ≡ t.clients → v.servers ≡ t.servers → v.net ≡ t.net →
      (c : ClientId) (i : ClientInput)
      (site old : WorldClient) → site.node ≡ old.node → site_of t c ≡ Some old →
      TakesAt t e c old i →
      R (ev.client_takes v c i site).world
  unfolding ev.client_takes ev.client_took cl.node_step
  takes v cs ss net c i site old same at k = go site.node.running
    where
      u : ClientTurn
      u = ClientTook v c i site

      before : messages v ≡ messages t
      before = ap (λ (n : world.Net). map message_in n.messages) net

      a : WorldTurn
      a = ev.quiet (ev.with_site c (SiteAfter v c i site) v)

      go : (b : Bool) →
          R (ev.client_took v c site
          (if b then Ok (cl.node_turn site.node u) else Err Crashed)).world
      go true = client_step v cs ss c i site old same at k _
          (client_leaves (messages t) c site.node.state u.state u.out a before)
      go false = alike v cs ss before

  at_client : (c : ClientId) (i : ClientInput) →
      ((site : WorldClient) → site_of t c ≡ Some site → TakesAt t e c site i) →
      R (ev.at_client w c i (site_of w c)).world
  unfolding ev.at_client w
  at_client c i k = go (site_of w c) refl
    where
      go : (o : Option WorldClient) → site_of w c ≡ o → R (ev.at_client w c i o).world
      go None r = alike w refl refl refl
      go (Some site) r = takes w refl refl refl c i site site refl r (k site r)

  at_server : (s : ServerId) (i : ServerInput) → Brings t i →
      R (ev.at_server w s i (node_of w s)).world
  unfolding ev.at_server ev.server_takes ev.server_took server.node_step w
  at_server s i k = go (node_of w s) refl
    where
      runs : (node : ServerNode) → node_of w s ≡ Some node → (b : Bool) → node.running ≡ b →
          R (ev.server_took w s
          (if b then Ok (server.node_turn node (ServerTook t s i node)) else Err Crashed)).world
      runs node at true run =
          server_step s i node at run k
          (server_leaves s (ServerTook t s i node).out
          (ev.quiet (ev.with_node s (NodeAfter t s i node) w)))
      runs node at false run = alike w refl refl refl

      go : (o : Option ServerNode) → node_of w s ≡ o → R (ev.at_server w s i o).world
      go None r = alike w refl refl refl
      go (Some node) r = runs node r node.running refl

  asks_happen : (c : ClientId) (ask : Ask) → e ≡ events.App c ask →
      R (ev.asks_at w c ask (site_of w c)).world
  unfolding ev.asks_at w
  asks_happen c ask is = go (site_of w c) refl
    where
      go : (o : Option WorldClient) → site_of w c ≡ o → R (ev.asks_at w c ask o).world
      go None r = alike w refl refl refl
      go (Some site) r =
          takes w refl refl refl c (inputs.App (site.asks + 1) ask) (ev.asked_once_more site) site
          refl r (ByAsk ask is)

  delivers : (k : ℕ) → e ≡ events.Deliver k → R (ev.delivers w (world.message_of w k)).world
  unfolding ev.delivers ev.delivers_to w
  delivers k is = go (world.message_of w k) refl
    where
      to : (m : SentMessage) → world.message_of w k ≡ Some m → (n : NodeId) →
          world.receiver_of m ≡ n →
          R (ev.delivers_to w m.message n).world
      to m q (nodes.Client c) r = at_client c (inputs.Control m.message)
          (λ site at. ByMessage k m is q r)
      to m q (nodes.Server s) r =
          at_server s (serving.Control m.message)
          (has_map_in message_in t.net.messages m (numbered_has t.net.messages k m q))

      go : (o : Option SentMessage) → world.message_of w k ≡ o → R (ev.delivers w o).world
      go None q = alike w refl refl refl
      go (Some m) q = to m q (world.receiver_of m) refl

  loses : (k : ℕ) → R (ev.loses_message w k (world.message_of w k))
  unfolding ev.loses_message w
  loses k = go (world.message_of w k) refl
    where
      go : (o : Option SentMessage) → world.message_of w k ≡ o → R (ev.loses_message w k o)
      go None q = alike w refl refl refl
      go (Some m) q = alike (ev.with_lost k m w) refl refl (lost_same w k m q)

  reports : (k : ℕ) (ok : Bool) → e ≡ events.Report k ok → R (ev.reports_of w k ok).world
  unfolding ev.reports_of ev.tells ev.tells_client ev.tells_site w
  reports k ok is = go (world.issued_of w k) refl
    where
      v : World
      v = ev.with_disks (ev.disks_after w.disks (disks.done w.disks k ok)) w

      none : R v
      none = alike v refl refl refl

      failed : (b : Bool) (s : Option Block) → ev.result_of b s ≡ None → b ≡ false
      failed true s q = cc
      failed false s q = refl

      same : (x : IssuedCommand) → world.issued_of w k ≡ Some x → (site : WorldClient) →
          site_of w x.client ≡ Some site →
          (b : Bool) → ev.is_same_instance x site ≡ b →
          R (if b then ev.client_takes v x.client (ev.end_told v k ok x) site else ev.quiet v).world
      same x q site at true r =
          takes v refl refl refl x.client (ev.end_told v k ok x) site site refl at
          (ByReport k ok x (ev.result_of ok (disks.sample v.disks k)) is q refl r
          (failed ok (disks.sample v.disks k)))
      same x q site at false r = none

      at : (x : IssuedCommand) → world.issued_of w k ≡ Some x → (o : Option WorldClient) →
          site_of w x.client ≡ o →
          R (ev.tells_client v k ok x o).world
      at x q None r = none
      at x q (Some site) r = same x q site r (ev.is_same_instance x site) refl

      go : (o : Option IssuedCommand) → world.issued_of w k ≡ o → R (ev.tells v k ok o).world
      go None q = none
      go (Some x) q = at x q (site_of w x.client) refl

  crashes_client : (c : ClientId) → R (ev.crashes_client w c (site_of w c)).world
  unfolding ev.crashes_client ev.marks w
  crashes_client c = go (site_of w c) refl
    where
      go : (o : Option WorldClient) → site_of w c ≡ o → R (ev.crashes_client w c o).world
      go None q = alike w refl refl refl
      go (Some site) q = stopped c site q

  starts_client : (c : ClientId) → R (ev.starts_client w c (site_of w c))
  unfolding ev.starts_client w
  starts_client c = go (site_of w c) refl
    where
      go : (o : Option WorldClient) → site_of w c ≡ o → R (ev.starts_client w c o)
      go None q = alike w refl refl refl
      go (Some site) q = begun c site q

  crashes_server : (s : ServerId) → R (ev.crashes_server w s (node_of w s))
  unfolding ev.crashes_server w
  crashes_server s = go (node_of w s) refl
    where
      go : (o : Option ServerNode) → node_of w s ≡ o → R (ev.crashes_server w s o)
      go None q = alike w refl refl refl
      go (Some node) q = crashed s node q

  starts_server : (s : ServerId) → R (ev.starts_server w s (node_of w s))
  unfolding ev.starts_server w
  starts_server s = go (node_of w s) refl
    where
      go : (o : Option ServerNode) → node_of w s ≡ o → R (ev.starts_server w s o)
      go None q = alike w refl refl refl
      go (Some node) q = started s node q

  happens : (x : Event) → e ≡ x → R (ev.happens w x).world
  unfolding ev.happens ev.ticks ev.crashes ev.starts ev.advances ev.effects ev.marks w
  happens (events.Tick (nodes.Client c)) is = at_client c inputs.Tick (λ site at. ByTick is)
  happens (events.Tick (nodes.Server s)) is = at_server s serving.Tick tt
  happens (events.App c ask) is = asks_happen c ask is
  happens (events.Deliver k) is = delivers k is
  happens (events.Lose k) is = loses k
  happens (events.Cut from to) is = alike (ev.happens w (events.Cut from to)).world refl refl refl
  happens (events.Heal from to) is = alike (ev.happens w (events.Heal from to)).world refl refl refl
  happens (events.Advance steps) is =
      alike (ev.happens w (events.Advance steps)).world refl refl refl
  happens (events.Effect k) is = alike (ev.happens w (events.Effect k)).world refl refl refl
  happens (events.Report k ok) is = reports k ok is
  happens (events.Crash (nodes.Client c)) is = crashes_client c
  happens (events.Crash (nodes.Server s)) is = crashes_server s
  happens (events.Start (nodes.Client c)) is = starts_client c
  happens (events.Start (nodes.Server s)) is = starts_server s

  pub event_takes : (sc : WorldTurn) → world_step t e ≡ Ok sc → R sc.world
  unfolding w
  event_takes sc f = let z = step_happens t e sc f in
      subst (λ (x : WorldTurn). R x.world) (sym z.1) (happens e refl)
