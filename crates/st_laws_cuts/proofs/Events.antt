-- An event of the world, walked once for its clients, its messages and its answers: a client takes a step, is emptied, or nothing of that
-- happens.
use Rattle.st_lemmas.proofs.Words
use Words.{◌≡◌, ℕ, ◌+◌, ◌⊎◌, Bool, true, false, [], Option, Some, None, Ok, Err, refl, sym, ap, subst, inl, inr, if◌then◌else◌, map, ClientId, ServerId, Stamp}
use Words.{NodeId, Ask, Body, Message, Event, ClientInput, ServerInput, SessionState, IssuedCommand, SentMessage}
use Words.nodes
use Words.events
use Words.outputs
use Words.inputs
use Words.serving
use Words.states
use Words.Keys.{server_node}
use Words.Client as cl
use Words.ClientState.{Association, ClientTurn}
use Words.Disks as disks
use Words.Events as ev
use Words.Events.{WorldTurn, world_step}
use Words.Server as server
use Words.Server.{ServerNode}
use Words.World as world
use Words.World.{World, WorldClient, site_of, node_of, with_numbered, clock_of}
use Words.Lists.{Has}
use Words.Numbers.{numbered_has}
use Words.Tables.{has_map, has_map_in}
use Rattle.st_rules.specs.declared.node.StepRefusal.TheVariants.{Crashed}
use Rattle.st_lemmas.proofs.Steps.{step_happens}
use Rattle.st_laws_leases.specs.Dates.Dates.{message_in, messages}
use Rattle.st_laws_leases.proofs.Dates.Leaving.{Leaves, client_leaves, leaves_from, lost_same, server_leaves}
use Rattle.st_laws_requests.specs.Cuts.Cuts.{KeptState, is_report}
use Rattle.st_laws_requests.proofs.Cuts.Seen.{AnswersOf, NoAnswers, answered_said, fates_none, none_answered, server_none}
use Rattle.st_laws_requests.proofs.Cuts.Server.{Before, O, before_more, report_kind, served}
use Rattle.st_laws_requests.proofs.Replies.EachEvent.{ClientTook, SiteAfter}

-- a message that was there before, or is of a server
abbrev pub OldOrServers : World → World → Type 0
OldOrServers t v = (m : Message) → Has m (messages v) → Has m (messages t) ⊎ ((s : ServerId) × (m.header.from ≡ server_node s))

-- the number of an ask that comes is the client's next one, and a message that comes was sent
abbrev pub NextAsk : World → ClientInput → WorldClient → WorldClient → Type 0
NextAsk t (inputs.App op ask) old site = (op ≡ old.asks + 1) × (op ≡ site.asks)
NextAsk t (inputs.Control m) old site = Has m (messages t)
NextAsk t i old site = Unit {0}

-- A client that is emptied: it has no operation, and no session at the servers that it had.
pub record IsEmptied (old new : WorldClient) : Type 0 where
  pub operations : new.node.state.operations ≡ []
  pub associations : (b : Association) → Has b new.node.state.associations → (a : Association) × Has a old.node.state.associations × (b.server ≡ a.server) × (b.session ≡ None)
  pub kept : (a : Association) → Has a old.node.state.associations → (b : Association) × Has b new.node.state.associations × (b.server ≡ a.server)

stopped : (site : WorldClient) → IsEmptied site (ev.stopped_site site)
unfolding cl.crash
stopped site =
    record {
      operations = refl;
      associations = λ b h. one b (has_map cl.crashed_association site.node.state.associations b h);
      kept = λ a h. (cl.crashed_association a, has_map_in cl.crashed_association site.node.state.associations a h, refl);
    }
  where
    one : (b : Association) → (a : Association) × Has a site.node.state.associations × (b ≡ cl.crashed_association a) → (a : Association) × Has a site.node.state.associations × (b.server ≡ a.server) × (b.session ≡ None)
    one b z = (z.0, z.1, ap (λ (y : Association). y.server) z.2, ap (λ (y : Association). y.session) z.2)

begun : (site : WorldClient) → IsEmptied site (ev.started_site site)
unfolding cl.start
begun site =
    record {
      operations = refl;
      associations = λ b h. one b (has_map cl.started_association site.node.state.associations b h);
      kept = λ a h. (cl.started_association a, has_map_in cl.started_association site.node.state.associations a h, refl);
    }
  where
    one : (b : Association) → (a : Association) × Has a site.node.state.associations × (b ≡ cl.started_association a) → (a : Association) × Has a site.node.state.associations × (b.server ≡ a.server) × (b.session ≡ None)
    one b z = (z.0, z.1, ap (λ (y : Association). y.server) z.2, ap (λ (y : Association). y.session) z.2)

-- what a server sends is its own, and a step leaves its epoch
its_step : (s : ServerId) (node : ServerNode) (i : ServerInput) (t : World) → node.state.id ≡ s →
    ((m : Message) → Has (outputs.Send m) (server.server_step node.state (clock_of (ev.counted t) (nodes.Server s)) i).out → m.header.from ≡ server_node s) × ((server.server_step node.state (clock_of (ev.counted t) (nodes.Server s)) i).state.stable.epoch ≡ node.state.stable.epoch)
its_step s node i t e = let z = (served is_report report_kind s node.state.stable.epoch i node.state.stable.names Old node.state now begins).1.0.acks in (λ m h. (z.sent m h).0, z.epoch)
  where
    now : Stamp
    now = clock_of (ev.counted t) (nodes.Server s)

    Old : ClientId → ℕ → ℕ → Body → Type 0
    Old c life number b = Unit {0}

    kept : (c : ClientId) (life : ℕ) (x : SessionState) → KeptState (Old c life) x
    kept c life (states.Live last (Some b)) = λ q. tt
    kept c life (states.Live last None) = tt
    kept c life states.Ended = tt

    begins : O is_report report_kind s node.state.stable.epoch (Before is_report report_kind s node.state.stable.epoch i node.state.stable.names Old node.state now) (before_more is_report report_kind s node.state.stable.epoch i node.state.stable.names Old node.state now) node.state.stable.names (server.turn node.state [])
    begins = record { acks = record { id = e; epoch = refl; kept = λ c x h. kept c x.life.0 x.state; sent = λ y h. absurd h }; names = refl }

its_own : (s : ServerId) (node : ServerNode) (i : ServerInput) (t : World) → node.state.id ≡ s → (m : Message) → Has (outputs.Send m) (server.server_step node.state (clock_of (ev.counted t) (nodes.Server s)) i).out → m.header.from ≡ server_node s
its_own s node i t e = (its_step s node i t e).0

pub same_epoch : (s : ServerId) (node : ServerNode) (i : ServerInput) (t : World) → node.state.id ≡ s → (server.server_step node.state (clock_of (ev.counted t) (nodes.Server s)) i).state.stable.epoch ≡ node.state.stable.epoch
same_epoch s node i t e = (its_step s node i t e).1

module _ (t : World) (ids : (s : ServerId) (node : ServerNode) → node_of t s ≡ Some node → node.state.id ≡ s) (R : WorldTurn → Type 0)
    (quiet : (sc : WorldTurn) → sc.world.clients ≡ t.clients → OldOrServers t sc.world → NoAnswers sc.seen → R sc)
    (takes_step : (v : World) → v.clients ≡ t.clients → (c : ClientId) (i : ClientInput) (site old : WorldClient) → site.node ≡ old.node → NextAsk t i old site → site.node.running ≡ true → site_of t c ≡ Some old →
    (sc : WorldTurn) → Leaves (messages t) (ev.with_site c (SiteAfter v c i site) v) sc.world (ClientTook v c i site).out → AnswersOf c (ClientTook v c i site).out [] sc.seen → R sc)
    (emptied : (c : ClientId) (old new : WorldClient) → site_of t c ≡ Some old → IsEmptied old new → (sc : WorldTurn) → sc.world.clients ≡ with_numbered c.0 new t.clients → messages sc.world ≡ messages t → NoAnswers sc.seen → R sc) where
  w : World
  w = ev.counted t

  alike : (sc : WorldTurn) → sc.world.clients ≡ t.clients → messages sc.world ≡ messages t → NoAnswers sc.seen → R sc
  alike sc cs ms n = quiet sc cs (λ m h. inl (subst (Has m) ms h)) n

  takes : (v : World) → v.clients ≡ t.clients → v.net ≡ t.net → (c : ClientId) (i : ClientInput) (site old : WorldClient) → site.node ≡ old.node → NextAsk t i old site → site_of t c ≡ Some old → R (ev.client_takes v c i site)
  unfolding ev.client_takes ev.client_took cl.node_step
  takes v cs net c i site old same next at = go site.node.running refl
    where
      u : ClientTurn
      u = ClientTook v c i site

      before : messages v ≡ messages t
      before = ap (λ (n : world.Net). map message_in n.messages) net

      a : WorldTurn
      a = ev.quiet (ev.with_site c (SiteAfter v c i site) v)

      go : (b : Bool) → site.node.running ≡ b → R (ev.client_took v c site (if b then Ok (cl.node_turn site.node u) else Err Crashed))
      go true run = takes_step v cs c i site old same next run at _ (client_leaves (messages t) c site.node.state u.state u.out a before) (answered_said c site.node.state u.out a)
      go false run = alike (ev.quiet v) cs before none_answered

  serves : (s : ServerId) (i : ServerInput) (node : ServerNode) → node_of t s ≡ Some node → R (ev.server_takes w s i node)
  unfolding ev.server_takes ev.server_took server.node_step w
  serves s i node at = go node.running
    where
      u : server.ServerTurn
      u = server.server_step node.state (clock_of w (nodes.Server s)) i

      a : WorldTurn
      a = ev.quiet (ev.with_node s (record node { state = u.state }) w)

      l : Leaves (messages t) a.world (ev.server_says_all s u.out a).world u.out
      l = server_leaves s u.out a

      go : (b : Bool) → R (ev.server_took w s (if b then Ok (server.node_turn node u) else Err Crashed))
      go true = quiet (ev.server_says_all s u.out a) l.clients (λ m h. by m (leaves_from (messages t) a.world (ev.server_says_all s u.out a).world u.out l m h)) (server_none s u.out a none_answered)
        where
          by : (m : Message) → Has m (messages t) ⊎ Has (outputs.Send m) u.out → Has m (messages t) ⊎ ((x : ServerId) × (m.header.from ≡ server_node x))
          by m (inl h) = inl h
          by m (inr h) = inr (s, its_own s node i t (ids s node at) m h)
      go false = alike (ev.quiet w) refl refl none_answered

  at_client : (c : ClientId) (i : ClientInput) → ((site : WorldClient) → NextAsk t i site site) → R (ev.at_client w c i (site_of w c))
  unfolding ev.at_client w
  at_client c i next = go (site_of w c) refl
    where
      go : (o : Option WorldClient) → site_of w c ≡ o → R (ev.at_client w c i o)
      go None r = alike (ev.quiet w) refl refl none_answered
      go (Some site) r = takes w refl refl c i site site refl (next site) r

  at_server : (s : ServerId) (i : ServerInput) → R (ev.at_server w s i (node_of w s))
  unfolding ev.at_server w
  at_server s i = go (node_of w s) refl
    where
      go : (o : Option ServerNode) → node_of w s ≡ o → R (ev.at_server w s i o)
      go None r = alike (ev.quiet w) refl refl none_answered
      go (Some node) r = serves s i node r

  asks_happen : (c : ClientId) (ask : Ask) → R (ev.asks_at w c ask (site_of w c))
  unfolding ev.asks_at w
  asks_happen c ask = go (site_of w c) refl
    where
      go : (o : Option WorldClient) → site_of w c ≡ o → R (ev.asks_at w c ask o)
      go None r = alike (ev.quiet w) refl refl none_answered
      go (Some site) r = takes w refl refl c (inputs.App (site.asks + 1) ask) (ev.asked_once_more site) site refl (refl, refl) r

  delivers : (k : ℕ) → R (ev.delivers w (world.message_of w k))
  unfolding ev.delivers ev.delivers_to w
  delivers k = go (world.message_of w k) refl
    where
      to : (m : Message) (n : NodeId) → Has m (messages t) → R (ev.delivers_to w m n)
      to m (nodes.Client c) h = at_client c (inputs.Control m) (λ site. h)
      to m (nodes.Server s) h = at_server s (serving.Control m)

      go : (o : Option SentMessage) → world.message_of w k ≡ o → R (ev.delivers w o)
      go None q = alike (ev.quiet w) refl refl none_answered
      go (Some m) q = to m.message (world.receiver_of m) (has_map_in message_in t.net.messages m (numbered_has t.net.messages k m q))

  loses : (k : ℕ) → R (ev.quiet (ev.loses_message w k (world.message_of w k)))
  unfolding ev.loses_message w
  loses k = go (world.message_of w k) refl
    where
      go : (o : Option SentMessage) → world.message_of w k ≡ o → R (ev.quiet (ev.loses_message w k o))
      go None q = alike (ev.quiet w) refl refl none_answered
      go (Some m) q = alike (ev.quiet (ev.with_lost k m w)) refl (lost_same w k m q) none_answered

  reports : (k : ℕ) (ok : Bool) → R (ev.reports_of w k ok)
  unfolding ev.reports_of ev.tells ev.tells_client ev.tells_site w
  reports k ok = go (world.issued_of w k)
    where
      v : World
      v = ev.with_disks (ev.disks_after w.disks (disks.done w.disks k ok)) w

      none : R (ev.quiet v)
      none = alike (ev.quiet v) refl refl none_answered

      same : (x : IssuedCommand) (site : WorldClient) → site_of w x.client ≡ Some site → (b : Bool) → R (if b then ev.client_takes v x.client (ev.end_told v k ok x) site else ev.quiet v)
      same x site q true = takes v refl refl x.client (ev.end_told v k ok x) site site refl tt q
      same x site q false = none

      at : (x : IssuedCommand) (o : Option WorldClient) → site_of w x.client ≡ o → R (ev.tells_client v k ok x o)
      at x None q = none
      at x (Some site) q = same x site q (ev.is_same_instance x site)

      go : (o : Option IssuedCommand) → R (ev.tells v k ok o)
      go None = none
      go (Some x) = at x (site_of w x.client) refl

  crashes_client : (c : ClientId) → R (ev.crashes_client w c (site_of w c))
  unfolding ev.crashes_client ev.marks w
  crashes_client c = go (site_of w c) refl
    where
      go : (o : Option WorldClient) → site_of w c ≡ o → R (ev.crashes_client w c o)
      go None q = alike (ev.quiet w) refl refl none_answered
      go (Some site) q = emptied c site (ev.stopped_site site) q (stopped site) _ refl refl (fates_none 1 w.log (ev.log_crashed w c))

  starts_client : (c : ClientId) → R (ev.quiet (ev.starts_client w c (site_of w c)))
  unfolding ev.starts_client w
  starts_client c = go (site_of w c) refl
    where
      go : (o : Option WorldClient) → site_of w c ≡ o → R (ev.quiet (ev.starts_client w c o))
      go None q = alike (ev.quiet w) refl refl none_answered
      go (Some site) q = emptied c site (ev.started_site site) q (begun site) _ refl refl none_answered

  crashes_server : (s : ServerId) → R (ev.quiet (ev.crashes_server w s (node_of w s)))
  unfolding ev.crashes_server w
  crashes_server s = go (node_of w s)
    where
      go : (o : Option ServerNode) → R (ev.quiet (ev.crashes_server w s o))
      go None = alike (ev.quiet w) refl refl none_answered
      go (Some node) = alike _ refl refl none_answered

  starts_server : (s : ServerId) → R (ev.quiet (ev.starts_server w s (node_of w s)))
  unfolding ev.starts_server w
  starts_server s = go (node_of w s)
    where
      go : (o : Option ServerNode) → R (ev.quiet (ev.starts_server w s o))
      go None = alike (ev.quiet w) refl refl none_answered
      go (Some node) = alike _ refl refl none_answered

  happens : (e : Event) → R (ev.happens w e)
  unfolding ev.happens ev.ticks ev.crashes ev.starts ev.advances ev.effects ev.marks w
  happens (events.Tick (nodes.Client c)) = at_client c inputs.Tick (λ site. tt)
  happens (events.Tick (nodes.Server s)) = at_server s serving.Tick
  happens (events.App c ask) = asks_happen c ask
  happens (events.Deliver k) = delivers k
  happens (events.Lose k) = loses k
  happens (events.Cut from to) = alike _ refl refl none_answered
  happens (events.Heal from to) = alike _ refl refl none_answered
  happens (events.Advance steps) = alike _ refl refl (fates_none 1 w.log _)
  happens (events.Effect k) = alike _ refl refl (fates_none 1 w.log _)
  happens (events.Report k ok) = reports k ok
  happens (events.Crash (nodes.Client c)) = crashes_client c
  happens (events.Crash (nodes.Server s)) = crashes_server s
  happens (events.Start (nodes.Client c)) = starts_client c
  happens (events.Start (nodes.Server s)) = starts_server s

  -- an event that happens
  pub event_does : (e : Event) (sc : WorldTurn) → world_step t e ≡ Ok sc → R sc
  unfolding w
  event_does e sc h = let z = step_happens t e sc h in subst R (sym z.1) (happens e)
