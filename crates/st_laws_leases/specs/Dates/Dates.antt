-- Why leases are dated from requests: what holds of the messages, the nodes and the history after every event.
use Rattle.std.specs.Prelude.{◌≡◌, ℕ, ◌≤◌, Bool, true, false, ◌==◌, nat_lt, List, map, length, Option, Some, None, is_some}
use Rattle.st_base.specs.declared.ids.ClientId.{ClientId}
use Rattle.st_base.specs.declared.ids.ServerId.{ServerId}
use Rattle.st_base.specs.declared.ids.Life.{Life}
use Rattle.st_base.specs.declared.ids.Stamp.{Stamp}
use Rattle.st_base.specs.declared.ids.NodeId.TheVariants as nodes
use Rattle.st_base.specs.Nodes.{SERVER_BASE}
use Rattle.st_messages.specs.declared.message.Message.{Message}
use Rattle.st_rules.specs.declared.client.Request.{Request}
use Rattle.st_rules.specs.declared.authority.Suspect.{Suspect}
use Rattle.st_rules.specs.declared.locks.LockRow.{LockRow}
use Rattle.st_rules.specs.declared.locks.Waiter.{Waiter}
use Rattle.st_rules.specs.declared.observation.Observation.TheVariants as seen
use Rattle.st_rules.specs.declared.world.SentMessage.{SentMessage}
use Rattle.st_rules.specs.Keys.{client, server_node}
use Rattle.st_rules.specs.ClientState.{ClientState, ClientSession, Association}
use Rattle.st_rules.specs.Authority as authority
use Rattle.st_rules.specs.Sessions as sessions
use Rattle.st_rules.specs.Sessions.{Sessions}
use Rattle.st_rules.specs.Locks.{Locks}
use Rattle.st_rules.specs.Server.{ServerNode, ServerState, is_client_node}
use Rattle.st_rules.specs.World.{World, WorldClient, clock_of, site_of, node_of, numbered}
use Rattle.st_rules.specs.History.{Traced, TimerStart, client_clock, is_timer_of}
use Rattle.st_rules.specs.Dating as dating
use Rattle.st_rules.specs.Safety.{Step, is_conflict}
use Rattle.st_lemmas.specs.Lists.{Has}

-- The messages.

-- what was sent
abbrev pub message_in : SentMessage → Message
message_in m = m.message

-- the messages of a world, in the order in which they were sent
abbrev pub messages : World → List Message
messages w = map message_in w.net.messages

-- a message by which a lease may be dated
abbrev pub is_dating : Message → Bool
is_dating m = dating.may_date m.header.number m.body

-- a message from a client: every server has a node number from 32,768 on
abbrev pub is_from_client : Message → Bool
is_from_client m = nat_lt m.header.from SERVER_BASE

-- the sender's clock shows the message's stamp
abbrev pub is_stamped_by : World → Message → Bool
is_stamped_by w m = (clock_of w (nodes.Client (client m.header.from))).0 == m.header.stamp

-- a message was sent at one of these steps, when its client's clock showed its stamp
pub record Born (past : List Step) (m : Message) : Type 0 where
  pub at : Step
  pub among : Has at past
  pub number : ℕ
  pub sent : Has (seen.Sent number m) at.seen
  pub stamp : is_stamped_by at.before.world m ≡ true

-- a message is a reply to a client's request among these messages
pub record Answer (ms : List Message) (m : Message) : Type 0 where
  pub asked : Message
  pub among : Has asked ms
  pub client : is_client_node asked.header.from ≡ true
  pub request : dating.is_request asked.body ≡ true
  pub reply : dating.is_reply_to asked m ≡ true

-- The clients.

-- a server's message to a client that may date a lease of this life at this date
pub record Dates (ms : List Message) (c : ClientId) (s : ServerId) (life : Life) (date : Stamp) : Type 0 where
  pub by : Message
  pub among : Has by ms
  pub from : by.header.from ≡ server_node s
  pub to : by.header.to ≡ c.0
  pub of_life : by.header.life ≡ life.0
  pub stamp : by.header.stamp ≡ date.0
  pub dating : is_dating by ≡ true

-- the outstanding request isn't a refusal because of a conflict
abbrev pub CalmRequest : Option Request → Type 0
CalmRequest None = Unit {0}
CalmRequest (Some q) = is_conflict q.body ≡ false

-- a session's lease has the stamp of such a message for its date, and its outstanding request is no such refusal
abbrev pub SessionDated : List Message → ClientId → ServerId → Life → Option ClientSession → Type 0
SessionDated ms c s life None = Unit {0}
SessionDated ms c s life (Some x) = Dates ms c s life x.lease.date × CalmRequest x.requests.asked

-- the lease of an association is dated
abbrev pub AssociationDated : List Message → ClientId → Association → Type 0
AssociationDated ms c a = SessionDated ms c a.server a.life a.session

-- all leases of a client are dated
pub record ClientDated (ms : List Message) (c : ClientId) (x : ClientState) : Type 0 where
  pub id : x.id ≡ c
  pub all : (a : Association) → Has a x.associations → AssociationDated ms c a

-- The servers.

-- the client has a session, which lives or is ended
abbrev pub Met : Sessions → ClientId → Type 0
Met v c = is_some (sessions.session_of v c) ≡ true

-- the client's timer runs
abbrev pub Runs : authority.Authority → ClientId → Type 0
Runs a c = is_some (authority.suspect_of a c) ≡ true

-- whoever has a row or a wait is one of these clients
pub record Clients (M : ClientId → Type 0) (l : Locks) : Type 0 where
  pub rows : (r : LockRow) → Has r l.rows → M r.client
  pub waits : (x : Waiter) → Has x l.waiters → M x.client

-- a client has one timer
abbrev pub OneTimer : List Suspect → Type 0
OneTimer xs = (x y : Suspect) → Has x xs → Has y xs → x.client ≡ y.client → x ≡ y

-- whoever has a row, a wait or a timer at a server has a session there, and one timer
pub record ServerKnown (s : ServerId) (n : ServerState) : Type 0 where
  pub id : n.id ≡ s
  pub suspects : (x : Suspect) → Has x n.authority.suspects → Met n.sessions x.client
  pub one : OneTimer n.authority.suspects
  pub locks : Clients (Met n.sessions) n.locks

-- The history.

-- a timer of the history runs at its server, which sent its client no message since that may date a lease
pub record TimerQuiet (w : World) (x : TimerStart) : Type 0 where
  pub node : ServerNode
  pub is : node_of w x.server ≡ Some node
  pub running : node.running ≡ true
  pub on : Runs node.state.authority x.client
  pub quiet : (k : ℕ) (m : Message) → numbered (messages w) k ≡ Some m → m.header.from ≡ server_node x.server → m.header.to ≡ x.client.0
      → is_dating m ≡ true → k ≤ x.sent

-- A timer of the history started in one of these steps: its server noted the suspicion then, the client's clock and the messages were as it says, and the timer
-- that its server has of the client has that start.
pub record Started (past : List Step) (w : World) (x : TimerStart) : Type 0 where
  pub at : Step
  pub among : Has at past
  pub start : Stamp
  pub noted : Has (seen.Suspected x.server x.client start) at.seen
  pub clock : x.clock ≡ client_clock at.before.world x.client
  pub sent : x.sent ≡ length at.before.world.net.messages
  pub own : (node : ServerNode) → node_of w x.server ≡ Some node → (u : Suspect) → Has u node.state.authority.suspects → u.client ≡ x.client → u.start ≡ start

-- the history has a timer of the client at the server
pub record TimerOf (ts : List TimerStart) (s : ServerId) (c : ClientId) : Type 0 where
  pub timer : TimerStart
  pub among : Has timer ts
  pub is : is_timer_of s c timer ≡ true

-- each timer that runs at a server is one of the history
abbrev pub Timed : List TimerStart → ServerId → ServerState → Type 0
Timed ts s n = (c : ClientId) → Runs n.authority c → TimerOf ts s c

-- After every event: each message of a client was sent at its stamp; each message of a server that may date a lease answers a request; each lease is dated by
-- such a message; timers keep their servers quiet, started in a step, and each that runs is one of the history.
pub record Dated (past : List Step) (t : Traced) : Type 0 where
  pub born : (m : Message) → Has m (messages t.world) → is_from_client m ≡ true → dating.is_request m.body ≡ true → Born past m
  pub answered : (m : Message) → Has m (messages t.world) → is_from_client m ≡ false → is_dating m ≡ true → Answer (messages t.world) m
  pub clients : (c : ClientId) (site : WorldClient) → site_of t.world c ≡ Some site → ClientDated (messages t.world) c site.node.state
  pub servers : (s : ServerId) (node : ServerNode) → node_of t.world s ≡ Some node → ServerKnown s node.state
  pub timers : (x : TimerStart) → Has x t.history.timers → TimerQuiet t.world x
  pub started : (x : TimerStart) → Has x t.history.timers → Started past t.world x
  pub timed : (s : ServerId) (node : ServerNode) → node_of t.world s ≡ Some node → node.running ≡ true → Timed t.history.timers s node.state
  pub few : length t.world.clients ≤ 16
