-- How far the requests of a client's life were served at a server, and which replies say so.
use Rattle.std.specs.Prelude.{ℕ, ◌≤◌, ◌<◌, ◌≡◌, true, List, [], Option, Some, None}
use Rattle.std.proofs.Common.{◌⊎◌}
use Rattle.st_base.specs.declared.config.Config.{Config}
use Rattle.st_base.specs.declared.ids.GrantNo.{GrantNo}
use Rattle.st_base.specs.declared.ids.NodeId.{NodeId}
use Rattle.st_base.specs.declared.ids.NodeId.TheVariants as nodes
use Rattle.st_base.specs.declared.ids.ServerId.{ServerId}
use Rattle.st_base.specs.declared.ids.Stamp.{Stamp}
use Rattle.st_base.specs.declared.mode.Mode.{Mode}
use Rattle.st_messages.specs.declared.event.Event.{Event}
use Rattle.st_messages.specs.declared.event.Event.TheVariants as events
use Rattle.st_messages.specs.declared.message.Body.{Body}
use Rattle.st_messages.specs.declared.message.Body.TheVariants as bodies
use Rattle.st_messages.specs.declared.message.Header.{Header}
use Rattle.st_messages.specs.declared.message.Message.{Message}
use Rattle.st_messages.specs.declared.message.Why.{Why}
use Rattle.st_messages.specs.declared.message.Why.TheVariants as why
use Rattle.st_rules.specs.declared.input.ServerInput.{ServerInput}
use Rattle.st_rules.specs.declared.input.ServerInput.TheVariants as inputs
use Rattle.st_rules.specs.declared.sessions.Session.{Session}
use Rattle.st_rules.specs.declared.sessions.SessionState.{SessionState}
use Rattle.st_rules.specs.declared.sessions.SessionState.TheVariants as states
use Rattle.st_rules.specs.declared.world.SentMessage.{SentMessage}
use Rattle.st_rules.specs.ClientState.{is_refusal}
use Rattle.st_rules.specs.Events as ev
use Rattle.st_rules.specs.Grace as grace
use Rattle.st_rules.specs.History.{traced}
use Rattle.st_rules.specs.Keys.{client, server_node}
use Rattle.st_rules.specs.Safety.{IsHead, Promise, Throughout, steps}
use Rattle.st_rules.specs.Server.{ServerNode, ServerTurn, sender, thefts, turn}
use Rattle.st_rules.specs.Sessions as sessions
use Rattle.st_rules.specs.World as world
use Rattle.st_rules.specs.World.{World, clock_of, fresh_world, node_of}
use Rattle.st_lemmas.specs.Lists.{Has}
use Rattle.st_laws_leases.specs.Dates.Dates.{messages}

-- a session served this number, or a higher one, or was ended
abbrev pub Reached : ℕ → SessionState → Type 0
Reached n (states.Live last reply) = n ≤ last
Reached n states.Ended = Unit {0}

-- a client's session belongs to a higher life, or to this one and reached the number
abbrev pub IsBehind : Option Session → ℕ → ℕ → Type 0
IsBehind None life n = ⊥
IsBehind (Some s) life n = (life < s.life.0) ⊎ ((life ≡ s.life.0) × Reached n s.state)

-- a refusal that is kept: of what was asked, and not of the client
abbrev pub KeptWhy : Why → Type 0
KeptWhy why.Suspect = ⊥
KeptWhy why.NoSession = ⊥
KeptWhy why.OtherEpoch = ⊥
KeptWhy why.Grace = ⊥
KeptWhy why.GraceOver = ⊥
KeptWhy why.Conflict = ⊥
KeptWhy w = Unit {0}

-- a reply that ends a request
abbrev pub Ends : Body → Type 0
Ends (bodies.Nack w a b) = KeptWhy w
Ends bodies.Welcome = ⊥
Ends body = Unit {0}

-- What is owed at a reassertion: in grace no session of its life was ended.
abbrev pub FindsNew : ServerTurn → Stamp → Header → Body → Type 0
FindsNew t now h (bodies.Reassert rows) =
    grace.is_on t.state.grace now ≡ true → (y : Session) → sessions.session_of t.state.sessions (sender h) ≡ Some y → y.life.0 ≡ h.life → sessions.is_live y ≡ true
FindsNew t now h body = Unit {0}

-- of the input of a step, right after the thefts
abbrev pub InputNew : ServerTurn → Stamp → ServerInput → Type 0
InputNew t now inputs.Tick = Unit {0}
InputNew t now (inputs.Control m) = FindsNew t now m.header m.body

-- at a server
abbrev pub AtServer : World → Message → ServerId → Option ServerNode → Type 0
AtServer w m s None = Unit {0}
AtServer w m s (Some n) = FindsNew (thefts (turn n.state []) (clock_of w (nodes.Server s))) (clock_of w (nodes.Server s)) m.header m.body

-- at the receiver of a message
abbrev pub AtReceiver : World → Message → NodeId → Type 0
AtReceiver w m (nodes.Client c) = Unit {0}
AtReceiver w m (nodes.Server s) = AtServer w m s (node_of w s)

-- the message of a number
abbrev pub AtMessage : World → Option SentMessage → Type 0
AtMessage w None = Unit {0}
AtMessage w (Some m) = AtReceiver w m.message (world.receiver_of m)

-- what is owed at an event
abbrev pub NewOwed : World → Event → Type 0
NewOwed w (events.Deliver k) = AtMessage w (world.message_of w k)
NewOwed w e = Unit {0}

-- owed at each step of a run
abbrev pub ReassertionsNew : Promise
ReassertionsNew past x = NewOwed (ev.counted x.before.world) x.event

-- a message answers a reassertion: with a refusal, or one that was not the first request
pub record Refusal (ms : List Message) (s : ServerId) (m : Message) : Type 0 where
  pub by : Message
  pub among : Has by ms
  pub from : by.header.from ≡ m.header.to
  pub there : by.header.to ≡ server_node s
  pub of_life : by.header.life ≡ m.header.life
  pub of_epoch : by.header.epoch ≡ m.header.epoch
  pub under : by.header.number ≡ m.header.number
  pub rows : List (ℕ × GrantNo × Mode)
  pub asks : by.body ≡ bodies.Reassert rows
  pub beyond : (2 ≤ m.header.number) ⊎ (is_refusal m.body ≡ true)

-- What a server's message says: it belongs to no later epoch than the server's, and in the present one, if it ends a request, the session
-- of its life reached its number, or it refuses a reassertion.
pub record Says (ms : List Message) (s : ServerId) (n : ServerNode) (m : Message) : Type 0 where
  pub up_to : m.header.epoch ≤ n.state.stable.epoch.0
  pub behind : n.running ≡ true → m.header.epoch ≡ n.state.stable.epoch.0 → Ends m.body → 1 ≤ m.header.number →
      IsBehind (sessions.session_of n.state.sessions (client m.header.to)) m.header.life m.header.number ⊎ Refusal ms s m

-- each message of each server says so
abbrev pub RepliesSay : World → Type 0
RepliesSay w = (s : ServerId) (n : ServerNode) → node_of w s ≡ Some n → (m : Message) → Has m (messages w) → m.header.from ≡ server_node s → Says (messages w) s n m

-- after a step
abbrev pub RepliesAfter : Promise
RepliesAfter past x = RepliesSay x.after.world

-- In every run replies say how far their sessions got, from what is owed at reassertions.
abbrev pub RepliesAreReached : Type 0
RepliesAreReached =
    (k : Config) (clients servers disks blocks form : ℕ) (es : List Event) → IsHead k clients servers disks blocks form →
    Throughout ReassertionsNew [] (steps es (traced (fresh_world k clients servers disks blocks form))) →
    Throughout RepliesAfter [] (steps es (traced (fresh_world k clients servers disks blocks form)))
