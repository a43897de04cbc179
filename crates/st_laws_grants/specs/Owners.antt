-- Why grant numbers are given once: each number has an owner, a client and a file; and all that tells a number tells it of its owner.
use Rattle.std.specs.Prelude.{◌≡◌, ◌⊎◌, ℕ, ◌+◌, ◌<◌, ◌≤◌, Bool, true, false, List, Option, Some}
use Rattle.st_base.specs.declared.ids.ClientId.{ClientId}
use Rattle.st_base.specs.declared.ids.GrantNo.{GrantNo}
use Rattle.st_base.specs.declared.ids.ServerId.{ServerId}
use Rattle.st_base.specs.declared.mode.Mode.{Mode}
use Rattle.st_messages.specs.declared.message.Body.{Body}
use Rattle.st_messages.specs.declared.message.Body.TheVariants as bodies
use Rattle.st_messages.specs.declared.message.Message.{Message}
use Rattle.st_rules.specs.declared.locks.LockRow.{LockRow}
use Rattle.st_rules.specs.declared.sessions.Session.{Session}
use Rattle.st_rules.specs.declared.sessions.SessionState.{SessionState}
use Rattle.st_rules.specs.declared.sessions.SessionState.TheVariants as states
use Rattle.st_rules.specs.ClientState.{Association}
use Rattle.st_rules.specs.Keys.{client, server_node}
use Rattle.st_rules.specs.Locks as locks
use Rattle.st_rules.specs.Locks.{Locks}
use Rattle.st_rules.specs.Server.{ServerNode, ServerState, is_client_node, next_epoch}
use Rattle.st_rules.specs.Sessions as sessions
use Rattle.st_rules.specs.World.{World, WorldClient, node_of, site_of}
use Rattle.st_protocol.specs.Assoc as net
use Rattle.st_protocol.specs.Assoc.{Granted, Demand, Reassert, In, Msg}
use Rattle.st_lemmas.specs.Lists.{Has}
use Rattle.st_laws_leases.specs.Dates.Dates.{messages}
use Rattle.st_laws_refine.specs.Client.Invariants.{Kept}
use Rattle.st_laws_refine.specs.Views.Halves.{held_in}
use Rattle.st_laws_refine.specs.Views.Messages.{Received, Shown}

-- the client and the file of a number, if it was given
abbrev pub Owner : Type 0
Owner = ℕ → Option (ℕ × ℕ)

-- what was given stays given
abbrev pub Grows : Owner → Owner → Type 0
Grows o p = (g : ℕ) (y : ℕ × ℕ) → o g ≡ Some y → p g ≡ Some y

-- The association machine.

-- the numbers that a message tells have this fact
abbrev pub Tells : (ℕ → ℕ → Type 0) → net.Body → Type 0
Tells P (Granted i g mode) = P i g
Tells P (Demand i g to) = P i g
Tells P (Reassert held) = (i : ℕ) → 1 ≤ (held i).mode → P i (held i).g
Tells P body = Unit {0}

-- so do all that these messages tell
abbrev pub AllTell : (ℕ → ℕ → Type 0) → List Msg → Type 0
AllTell P ms = (m : Msg) → In m ms → Tells P m.body

-- a client's number on a file
abbrev pub Owned : Owner → ℕ → ℕ → ℕ → Type 0
Owned o c i g = o g ≡ Some (c, i)

-- The server.

-- a lock table: no number above its last grant was given, and its rows have owners
pub record LocksOk (o : Owner) (l : Locks) : Type 0 where
  pub low : (g : ℕ) (y : ℕ × ℕ) → o g ≡ Some y → g ≤ locks.first_after l.epoch + l.grants
  pub rows : (r : LockRow) → Has r l.rows → o r.g.0 ≡ Some (r.client.0, r.ino)

-- what a message tells a client; a server reasserts nothing
abbrev pub Fits : Owner → ℕ → Body → Type 0
Fits o c (bodies.Granted ino g mode) = o g.0 ≡ Some (c, ino)
Fits o c (bodies.Demand ino g to) = o g.0 ≡ Some (c, ino)
Fits o c (bodies.Reassert rows) = ⊥
Fits o c body = Unit {0}

-- the kept reply of a session
abbrev pub FitsState : Owner → ℕ → SessionState → Type 0
FitsState o c (states.Live last (Some reply)) = Fits o c reply
FitsState o c state = Unit {0}

-- all kept replies
abbrev pub Keeps : Owner → sessions.Sessions → Type 0
Keeps o t = (c : ClientId) (x : Session) → sessions.session_of t c ≡ Some x → FitsState o c.0 x.state

-- a server that runs has the numbers up to its last grant; one that is down gives none of an epoch that is over
abbrev pub StateOk : Owner → Bool → ServerState → Type 0
StateOk o true n = LocksOk o n.locks × Keeps o n.sessions
StateOk o false n = (g : ℕ) (y : ℕ × ℕ) → o g ≡ Some y → g < locks.first_after (next_epoch n.stable.epoch)

-- The client.

-- what a client has of a server
pub record Side (o : Owner) (c : ℕ) (a : Association) (N : List Msg) : Type 0 where
  pub kept : Kept a.life.0 a.store a.session N
  pub held : (i : ℕ) → 1 ≤ (held_in a.session i).mode → Owned o c i (held_in a.session i).g

-- A client and a server: some messages of the association machine hold all that was sent between the two, and tell numbers of the client.
pub record Pair (o : Owner) (c : ℕ) (s : ServerId) (w : World) : Type 0 where
  pub net : List Msg
  pub tells : AllTell (Owned o c) net
  pub shows : (m : Message) → Has m (messages w) → m.header.from ≡ server_node s → m.header.to ≡ c → Shown m net
  pub receives : (m : Message) → Has m (messages w) → m.header.to ≡ server_node s → is_client_node m.header.from ≡ true → m.header.from ≡ c → Received m.header m.body net
  pub side : (site : WorldClient) → site_of w (client c) ≡ Some site → (a : Association) → Has a site.node.state.associations → a.server ≡ s → Side o c a net

-- a grant of the server under this number was sent
pub record WasSent (s : ServerId) (ms : List Message) (g : ℕ) : Type 0 where
  pub message : Message
  pub among : Has message ms
  pub from : message.header.from ≡ server_node s
  pub ino : ℕ
  pub mode : Mode
  pub body : message.body ≡ bodies.Granted ino (record { 0 = g }) mode

-- a server with all clients; each number that it gave was sent
pub record GivesOnce (w : World) (s : ServerId) (node : ServerNode) : Type 0 where
  pub owner : Owner
  pub state : StateOk owner node.running node.state
  pub pairs : (c : ℕ) → Pair owner c s w
  pub told : (g : ℕ) (y : ℕ × ℕ) → owner g ≡ Some y → WasSent s (messages w) g

-- so each server
abbrev pub AllGiveOnce : World → Type 0
AllGiveOnce w = (s : ServerId) (node : ServerNode) → node_of w s ≡ Some node → GivesOnce w s node

-- Each grant of a server that is there after an event was there before, or is under a number that was sent before, or is above all that were.
abbrev pub RiseFrom : World → World → Type 0
RiseFrom w v =
    (s : ServerId) (node : ServerNode) → node_of w s ≡ Some node → (m : Message) → Has m (messages v) → m.header.from ≡ server_node s → (ino : ℕ) (g : GrantNo) (mode : Mode) → m.body ≡ bodies.Granted ino g mode →
    Has m (messages w) ⊎ (WasSent s (messages w) g.0 ⊎ ((x : Message) → Has x (messages w) → x.header.from ≡ server_node s → (j : ℕ) (h : GrantNo) (by : Mode) → x.body ≡ bodies.Granted j h by → h.0 < g.0))
