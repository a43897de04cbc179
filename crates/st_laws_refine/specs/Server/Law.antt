-- The laws of the server's side: its steps are moves, what is at it, and which promises it carries.
use Rattle.std.specs.Prelude.{◌≡◌, ℕ, ◌<◌, ◌≤◌, true, false, length, List, [], Ok}
use Rattle.st_base.specs.declared.ids.NodeId.TheVariants as nodes
use Rattle.st_base.specs.declared.ids.ServerId.{ServerId}
use Rattle.st_base.specs.declared.ids.Stamp.{Stamp}
use Rattle.st_base.specs.declared.config.Config as base
use Rattle.st_messages.specs.declared.event.Event.{Event}
use Rattle.st_messages.specs.declared.event.Event.TheVariants as events
use Rattle.st_rules.specs.declared.input.ServerInput.{ServerInput}
use Rattle.st_rules.specs.declared.input.ServerInput.TheVariants.{Tick, Control}
use Rattle.st_rules.specs.Keys.{client}
use Rattle.st_rules.specs.Server.{ServerState, ServerNode, ServerTurn, turn, server_step, fresh_server, crash, start, crash_node, start_node, is_client_node}
use Rattle.st_rules.specs.World.{World, clock_of, server}
use Rattle.st_rules.specs.Events.{WorldTurn, world_step}
use Rattle.st_rules.specs.History.{Traced}
use Rattle.st_rules.specs.Safety.{has_waited}
use Rattle.st_protocol.specs.Assoc as net
use Rattle.st_protocol.specs.Assoc.{Config, ConfigOk, Msg, Moves, Reached}
use Rattle.st_laws_refine.specs.Views.Messages.{Received}
use Rattle.st_laws_refine.specs.Views.Halves.{Ghost}
use Rattle.st_laws_refine.specs.Server.View.{at, Ready}
use Rattle.st_laws_refine.specs.Server.Pair.{client_in, EndedBy, Timed, DatesShown, DatesKnown}
use Rattle.st_laws_refine.specs.Server.Invariants.{Compat, Calm, Few, Stands, Settings, StepsAt, AfterStep, AfterAdvance}
use Rattle.st_laws_refine.specs.Server.Edits.{WishInput}

-- what an input brings to the server from this client
abbrev pub Comes : ℕ → ServerInput → List Msg → Type 0
Comes d Tick N = Unit {0}
Comes d (Control m) N = is_client_node m.header.from ≡ true → m.header.from ≡ d → Received m.header m.body N

-- a step of the server, seen from one client
pub record ServerResult (k : Config) (cl : net.Client) (d : ℕ) (now : Stamp) (t u : ServerTurn) (x : Ghost) : Type 0 where
  pub ghost : Ghost
  pub moves : Moves k (at cl (client d) now t.state x) (at cl (client d) now u.state ghost)
  pub ready : Ready d k.wait now u ghost

-- a step of a server, whatever comes, is for its association with a client a list of moves, and what held before it holds after it
abbrev pub ServerStepsAreMoves : Type 0
ServerStepsAreMoves =
    (k : Config) (w : net.World) (cl : net.Client) (now : Stamp) (d : ℕ) (n : ServerState) (x : Ghost) (i : ServerInput) → ConfigOk k → Reached k w →
    w.at d ≡ at cl (client d) now n x → Comes d i x.net → Ready d k.wait now (turn n []) x →
    ServerResult k cl d now (turn n []) (server_step n now i) x

-- Rows stay compatible through a whole step, whatever comes.
abbrev pub RowsStayCompatible : Type 0
RowsStayCompatible = (n : ServerState) (now : Stamp) (i : ServerInput) → WishInput i → Compat n.locks → Compat (server_step n now i).state.locks

-- The invariant of a server that runs holds again after a tick or a delivery to it, and its thefts were late.
abbrev pub StepsKeepServers : Type 0
StepsKeepServers =
    (k : Config) (s : ℕ) (ended : ℕ → ℕ → ℕ) (w : World) (e : Event) (sc : WorldTurn) (node : ServerNode) (G : ℕ → Ghost) →
    ConfigOk k → 1 ≤ s → node.running ≡ true → Settings k w → ((c : ℕ) → EndedBy c s (ended c) w.ended) →
    world_step w e ≡ Ok sc → StepsAt s w e → Stands k s ended w node G → AfterStep k s ended w sc node G

-- It holds again after an advance, in both forms of the head, whether the server runs or not.
abbrev pub AdvancesKeepServers : Type 0
AdvancesKeepServers =
    (k : Config) (s : ℕ) (ended : ℕ → ℕ → ℕ) (w : World) (steps : List ℕ) (sc : WorldTurn) (node : ServerNode) (G : ℕ → Ghost) →
    ConfigOk k → 1 ≤ s → length steps ≡ length w.clocks → world_step w (events.Advance steps) ≡ Ok sc →
    Timed k s w G → Stands k s ended w node G → AfterAdvance k s ended sc.world node G

-- It holds again after a crash of the server, if the grants of the epoch are few.
abbrev pub CrashesKeepServers : Type 0
CrashesKeepServers =
    (k : Config) (s : ℕ) (ended : ℕ → ℕ → ℕ) (w : World) (sc : WorldTurn) (node : ServerNode) (G : ℕ → Ghost) →
    node.running ≡ true → Few w.net.bytes node.state → world_step w (events.Crash (nodes.Server (server s))) ≡ Ok sc →
    Stands k s ended w node G → Stands k s ended sc.world (crash_node node) G

-- the ghosts after a start remember both clocks and the client's life
abbrev pub started_ghosts : ℕ → (ℕ → ℕ → ℕ) → World → (ℕ → Ghost) → ℕ → Ghost
started_ghosts s ended w G c =
    record (G c) {
      gstart = (clock_of w (nodes.Server (server s))).0;
      gbase = (client_in w c s (ended c)).clock;
      glife = (client_in w c s (ended c)).life;
    }

-- It holds again after a start of the server.
abbrev pub StartsKeepServers : Type 0
StartsKeepServers =
    (k : Config) (s : ℕ) (ended : ℕ → ℕ → ℕ) (w : World) (sc : WorldTurn) (node : ServerNode) (G : ℕ → Ghost) →
    0 < k.wait → node.running ≡ false → world_step w (events.Start (nodes.Server (server s))) ≡ Ok sc → Stands k s ended w node G →
    Stands k s ended sc.world (start_node node (clock_of w (nodes.Server (server s)))) (started_ghosts s ended w G)

-- If it holds, the server waited out its grace: outside grace every lease of an earlier epoch has ended.
abbrev pub ServersWait : Type 0
ServersWait =
    (k : Config) (s : ℕ) (ended : ℕ → ℕ → ℕ) (t : Traced) (node : ServerNode) (G : ℕ → Ghost) →
    ConfigOk k → Stands k s ended t.world node G → DatesKnown t.world t.history.dates →
    ((c : ℕ) → DatesShown k.lease c s t.history.dates (G c).net) → has_waited t (server s) ≡ true

-- What the absence of conflicts rests on holds at a fresh server, and after a crash and a start. It doesn't mention the moment, so passing time keeps it.
pub record CalmStays : Type 0 where
  pub fresh : (id : ServerId) (kb : base.Config) (servers disks blocks : ℕ) → Calm (fresh_server id kb servers disks blocks)
  pub crashed : (n : ServerState) → Calm (crash n)
  pub started : (n : ServerState) (begun : Stamp) → Calm (start n begun)

-- Grants are few at a fresh server, while messages only get more bytes, and after a crash and a start.
pub record FewStay : Type 0 where
  pub fresh : (bytes : ℕ) (id : ServerId) (kb : base.Config) (servers disks blocks : ℕ) → Few bytes (fresh_server id kb servers disks blocks)
  pub more : (before after : ℕ) (n : ServerState) → before ≤ after → Few before n → Few after n
  pub crashed : (bytes : ℕ) (n : ServerState) → Few bytes (crash n)
  pub started : (bytes : ℕ) (n : ServerState) (begun : Stamp) → Few bytes (start n begun)
