-- What holds between events at a server of the world, for all its clients at once.
use Rattle.std.specs.Prelude.{◌≡◌, ◌≢◌, ℕ, ◌+◌, ◌≤◌, length, true, false, Some, None, is_some}
use Rattle.std.specs.List.{list_all}
use Rattle.st_base.specs.declared.ids.ClientId.{ClientId}
use Rattle.st_base.specs.declared.ids.Life.{Life}
use Rattle.st_base.specs.declared.ids.NodeId.TheVariants as nodes
use Rattle.st_base.specs.declared.ids.ServerId.{ServerId}
use Rattle.st_base.specs.Mode.{number_of, conflicts}
use Rattle.st_messages.specs.declared.event.Event.{Event}
use Rattle.st_messages.specs.declared.event.Event.TheVariants as events
use Rattle.st_rules.specs.declared.locks.LockRow.{LockRow}
use Rattle.st_rules.specs.declared.locks.Waiter.{Waiter}
use Rattle.st_rules.specs.declared.sessions.Session.{Session}
use Rattle.st_rules.specs.declared.sessions.SessionState.{SessionState}
use Rattle.st_rules.specs.declared.sessions.SessionState.TheVariants.{Live, Ended}
use Rattle.st_rules.specs.declared.world.SentMessage.{SentMessage}
use Rattle.st_rules.specs.Locks.{Locks, row_of}
use Rattle.st_rules.specs.declared.authority.Suspect.{Suspect}
use Rattle.st_rules.specs.ServerInvariants.{are_once, same_row}
use Rattle.st_rules.specs.Sessions.{session_of}
use Rattle.st_rules.specs.Server.{ServerState, ServerNode}
use Rattle.st_rules.specs.World.{World, WorldClient, site_of, ended_of, message_of, receiver_of, server}
use Rattle.st_rules.specs.Events.{WorldTurn}
use Rattle.st_rules.specs.History.{Traced}
use Rattle.st_rules.specs.Safety.{is_late, is_conflict, is_no_conflict}
use Rattle.st_protocol.specs.Assoc as net
use Rattle.st_protocol.specs.Assoc.{Config, Reached}
use Rattle.st_laws_refine.specs.Views.Halves.{Ghost}
use Rattle.st_lemmas.specs.Lists.{Has}
use Rattle.st_laws_refine.specs.Server.Pair.{pair, Served, Timed, DatesShown, DatesKnown}

-- The rows of a lock table are compatible: each row and each wait has a mode, and the rows of two clients on one file do not conflict.
pub record Compat (l : Locks) : Type 0 where
  pub rows : (c : ClientId) (i : ℕ) (r : LockRow) → row_of l c i ≡ Some r → 1 ≤ number_of r.mode
  pub waits : (w : Waiter) → Has w l.waiters → 1 ≤ number_of w.mode
  pub fits : (c d : ClientId) (i : ℕ) (r q : LockRow) → c.0 ≢ d.0 → row_of l c i ≡ Some r → row_of l d i ≡ Some q → conflicts r.mode q.mode ≡ false

-- the associations of all clients with a server
abbrev pub pairs : ℕ → (ℕ → ℕ → ℕ) → World → ServerNode → (ℕ → Ghost) → net.World
pairs s ended w node G = record { at = λ c. pair c s (ended c) w node (G c) }

-- What holds between events at a server, whether it runs or not: its associations are in a state that the machine can reach, each client is served as it must
-- be, and its rows are compatible.
pub record Stands (k : Config) (s : ℕ) (ended : ℕ → ℕ → ℕ) (w : World) (node : ServerNode) (G : ℕ → Ghost) : Type 0 where
  pub reached : Reached k (pairs s ended w node G)
  pub served : (c : ℕ) → Served k.wait c s w node (G c)
  pub compat : Compat node.state.locks

-- each client's lease is as long as the settings say, and no life has ended of a number that isn't a client
pub record Settings (k : Config) (w : World) : Type 0 where
  pub lease : (c : ClientId) (site : WorldClient) → site_of w c ≡ Some site → site.node.state.config.lease ≡ k.lease
  pub ended : (c : ClientId) (s : ServerId) (life : Life) → site_of w c ≡ None → ended_of w c s life ≡ None

-- the locks that were granted in the epoch, and the waits
abbrev pub taken_locks : Locks → ℕ
taken_locks l = l.grants + length l.waiters

-- Grants and waits of an epoch are few: each was paid for by a message, and a step is taken only while messages have fewer than
-- 2^29 bytes.
pub record Few (bytes : ℕ) (n : ServerState) : Type 0 where
  pub paid : taken_locks n.locks ≤ bytes
  pub few : taken_locks n.locks ≤ 536870912

-- Each row, each wait and each timer at a server belongs to a client that has a session.
pub record Known (n : ServerState) : Type 0 where
  pub rows : (r : LockRow) → Has r n.locks.rows → is_some (session_of n.sessions r.client) ≡ true
  pub waits : (w : Waiter) → Has w n.locks.waiters → is_some (session_of n.sessions w.client) ≡ true
  pub timers : (x : Suspect) → Has x n.authority.suspects → is_some (session_of n.sessions x.client) ≡ true

-- an event in which a server takes a step: a tick, or a message to it that is delivered
pub data StepsAt (s : ℕ) (w : World) (e : Event) : Type 0 where
  ByTick : e ≡ events.Tick (nodes.Server (server s)) → StepsAt s w e
  ByMessage : (n : ℕ) (m : SentMessage) → e ≡ events.Deliver n → message_of w n ≡ Some m → receiver_of m ≡ nodes.Server (server s) → StepsAt s w e

-- After an advance everything holds again, also of the clocks.
pub record AfterAdvance (k : Config) (s : ℕ) (ended : ℕ → ℕ → ℕ) (v : World) (node : ServerNode) (G : ℕ → Ghost) : Type 0 where
  pub ghosts : ℕ → Ghost
  pub stands : Stands k s ended v node ghosts
  pub timed : Timed k s v ghosts
  pub nets : (c : ℕ) → (ghosts c).net ≡ (G c).net

-- a kept reply isn't a conflict
abbrev pub CalmState : SessionState → Type 0
CalmState (Live last None) = Unit {0}
CalmState (Live last (Some b)) = is_conflict b ≡ false
CalmState Ended = Unit {0}

-- What the absence of conflicts rests on at a server: each client has one row on a file, and no kept reply is a conflict.
pub record Calm (n : ServerState) : Type 0 where
  pub once : are_once same_row n.locks.rows ≡ true
  pub kept : (s : Session) → Has s n.sessions.rows → CalmState s.state

-- After a step of a server everything holds again, its thefts were late for every lease that a reply dated, and it sent no conflict.
pub record AfterStep (k : Config) (s : ℕ) (ended : ℕ → ℕ → ℕ) (w : World) (sc : WorldTurn) (before : ServerNode) (G : ℕ → Ghost) : Type 0 where
  pub node : ServerNode
  pub ghosts : ℕ → Ghost
  pub runs : node.running ≡ true
  pub stands : Stands k s ended sc.world node ghosts
  pub late : (t : Traced) → t.world ≡ w → DatesKnown w t.history.dates → ((c : ℕ) → DatesShown k.lease c s t.history.dates (G c).net) →
      list_all (is_late t) sc.seen ≡ true
  pub calm : Calm before.state → Calm node.state
  pub few : Few w.net.bytes before.state → Few sc.world.net.bytes node.state
  pub quiet : Calm before.state → list_all is_no_conflict sc.seen ≡ true
