-- Cuts are locked: the law, what holds of the lock tables, and what is owed at a reassertion.
use Rattle.std.specs.Prelude.{◌≡◌, ◌==◌, ℕ, true, false, Bool, List, [], ◌∷◌, Option, Some, None, Ok}
use Rattle.std.specs.List.{list_all}
use Rattle.st_base.specs.declared.ids.ServerId.{ServerId}
use Rattle.st_base.specs.declared.ids.Stamp.{Stamp}
use Rattle.st_base.specs.declared.ids.NodeId.{NodeId}
use Rattle.st_base.specs.declared.ids.NodeId.TheVariants as nodes
use Rattle.st_base.specs.declared.config.Config.{Config}
use Rattle.st_base.specs.declared.mode.Mode.TheVariants as modes
use Rattle.st_messages.specs.declared.event.Event.{Event}
use Rattle.st_messages.specs.declared.event.Event.TheVariants as events
use Rattle.st_messages.specs.declared.message.Body.{Body}
use Rattle.st_messages.specs.declared.message.Body.TheVariants as bodies
use Rattle.st_messages.specs.declared.message.Header.{Header}
use Rattle.st_messages.specs.declared.message.Message.{Message}
use Rattle.st_messages.specs.declared.output.Note.TheVariants as notes
use Rattle.st_messages.specs.declared.output.Output.{Output}
use Rattle.st_messages.specs.declared.output.Output.TheVariants as outputs
use Rattle.st_rules.specs.declared.locks.LockRow.{LockRow}
use Rattle.st_rules.specs.declared.locks.Waiter.{Waiter}
use Rattle.st_rules.specs.declared.observation.Observation.{Observation}
use Rattle.st_rules.specs.declared.observation.Observation.TheVariants as seen
use Rattle.st_rules.specs.declared.world.SentMessage.{SentMessage}
use Rattle.st_rules.specs.Locks as locks
use Rattle.st_rules.specs.Locks.{Locks}
use Rattle.st_rules.specs.Sessions as sessions
use Rattle.st_rules.specs.Grace as grace
use Rattle.st_rules.specs.Server as server
use Rattle.st_rules.specs.Server.{ServerNode, ServerTurn, turn, thefts, sender, life_in}
use Rattle.st_rules.specs.World as world
use Rattle.st_rules.specs.World.{World, numbered, node_of, clock_of}
use Rattle.st_rules.specs.Events as ev
use Rattle.st_rules.specs.Events.{WorldTurn}
use Rattle.st_rules.specs.Safety.{Promise, Throughout, cuts_under}
use Rattle.st_lemmas.specs.Lists.{Has}
use Rattle.st_laws_pages.specs.Disks.Runs.{steps_of}

-- after an event that logged a cut the file's server runs and has an exclusive row of the file
abbrev pub is_cut_locked : List ServerNode → Observation → Bool
is_cut_locked ns (seen.CutAt index f p) = cuts_under f.ino (numbered ns f.server.0)
is_cut_locked ns o = true

-- Changes are locked, for cuts.
abbrev pub CutsAreLocked : Promise
CutsAreLocked past x = list_all (is_cut_locked x.after.world.servers) x.seen ≡ true

-- Nobody waits for a file of which it has an exclusive row.
abbrev pub WaitsApart : Locks → Type 0
WaitsApart l = (w : Waiter) → Has w l.waiters → (r : LockRow) → locks.row_of l w.client w.ino ≡ Some r → r.mode ≡ modes.X → ⊥

-- somebody has an exclusive row of the file
pub record IsHeld (ino : ℕ) (l : Locks) : Type 0 where
  pub client : Rattle.st_base.specs.declared.ids.ClientId.ClientId
  pub row : LockRow
  pub is : locks.row_of l client ino ≡ Some row
  pub exclusive : row.mode ≡ modes.X

-- each cut that the outputs note is of a file of this server, of which somebody has an exclusive row
abbrev pub CutHeld : ServerId → Locks → Output → Type 0
CutHeld s l (outputs.Note (notes.CutDone f p)) = (f.server ≡ s) × IsHeld f.ino l
CutHeld s l o = Unit {0}

-- all of them
abbrev pub CutsHeld : ServerId → Locks → List Output → Type 0
CutsHeld s l [] = Unit {0}
CutsHeld s l (o ∷ os) = record { one : CutHeld s l o; rest : CutsHeld s l os }

-- what holds of a server
pub record TableHolds (s : ServerId) (n : ServerNode) : Type 0 where
  pub id : n.state.id ≡ s
  pub waits : WaitsApart n.state.locks

-- What holds of the lock tables of all servers.
abbrev pub WaitsHold : World → Type 0
WaitsHold w = (s : ServerId) (n : ServerNode) → node_of w s ≡ Some n → TableHolds s n

-- A reassertion that may be accepted: it goes to this server, in its epoch and in its grace, and its life is new to the sessions.
pub record MayAccept (t : ServerTurn) (now : Stamp) (h : Header) : Type 0 where
  pub here : server.is_for t.state h ≡ true
  pub epoch : (h.epoch == t.state.stable.epoch.0) ≡ true
  pub on : grace.is_on t.state.grace now ≡ true
  pub new : sessions.knows t.state.sessions (sender h) (life_in h) ≡ false

-- Owed at a reassertion that may be accepted: its client waits for nothing.
abbrev pub WaitsForNone : ServerTurn → Stamp → Header → Body → Type 0
WaitsForNone t now h (bodies.Reassert rows) = MayAccept t now h → (w : Waiter) → Has w t.state.locks.waiters → w.client ≡ sender h → ⊥
WaitsForNone t now h body = Unit {0}

-- at a server, after its thefts
abbrev pub AtReassertion : World → Message → ServerId → Option ServerNode → Type 0
AtReassertion w m s None = Unit {0}
AtReassertion w m s (Some n) =
    WaitsForNone (thefts (turn n.state []) (clock_of w (nodes.Server s))) (clock_of w (nodes.Server s)) m.header m.body

-- at the receiver of a message
abbrev pub AtReceiver : World → Message → NodeId → Type 0
AtReceiver w m (nodes.Client c) = Unit {0}
AtReceiver w m (nodes.Server s) = AtReassertion w m s (node_of w s)

-- the message of a number
abbrev pub AtMessage : World → Option SentMessage → Type 0
AtMessage w None = Unit {0}
AtMessage w (Some m) = AtReceiver w m.message (world.receiver_of m)

-- What is owed at an event.
abbrev pub WaitsOwed : World → Event → Type 0
WaitsOwed w (events.Deliver k) = AtMessage w (world.message_of w k)
WaitsOwed w e = Unit {0}

-- owed at each step of a run
abbrev pub ReassertionsOwed : Promise
ReassertionsOwed past x = WaitsOwed (ev.counted x.before.world) x.event

-- The law: from what is owed at reassertions, each cut is locked, and what holds of the lock tables holds after each step.
abbrev pub StepsLockCuts : Type 0
StepsLockCuts =
    (w : World) (e : Event) (sc : WorldTurn) → ev.world_step w e ≡ Ok sc → WaitsOwed (ev.counted w) e → WaitsHold w →
    record { locked : list_all (is_cut_locked sc.world.servers) sc.seen ≡ true; holds : WaitsHold sc.world }

-- In every run cuts are locked, from what is owed at reassertions.
abbrev pub RunsLockCuts : Type 0
RunsLockCuts =
    (k : Config) (clients servers disks blocks form : ℕ) (es : List Event) → Throughout ReassertionsOwed [] (steps_of k clients servers disks blocks form es) →
    Throughout CutsAreLocked [] (steps_of k clients servers disks blocks form es)
