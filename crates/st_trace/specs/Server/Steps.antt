-- A step of a server that hears these nodes as clients.
use Rattle.std.specs.Prelude.{ℕ, ◌&&◌, ◌==◌, Bool, if◌then◌else◌, []}
use Rattle.st_base.specs.declared.ids.Stamp.{Stamp}
use Rattle.st_messages.specs.declared.message.Header.{Header}
use Rattle.st_rules.specs.declared.input.ServerInput.{ServerInput}
use Rattle.st_rules.specs.declared.input.ServerInput.TheVariants.{Tick, Control}
use Rattle.st_rules.specs.Keys.{server_node}
use Rattle.st_rules.specs.Server.{ServerState, ServerTurn, demanding, granting, receive_from, suspecting_on, thefts, turn}

-- a message of one of them to this server
abbrev pub hears : (ℕ → Bool) → ServerState → Header → Bool
hears clients n h = (h.to == server_node n.id) && clients h.from

-- the rule for the input
abbrev pub take_of : (ℕ → Bool) → ServerTurn → Stamp → ServerInput → ServerTurn
take_of clients t now Tick = t
take_of clients t now (Control m) = if hears clients t.state m.header then receive_from t now m.header m.body else t

-- the step
abbrev pub step_of : (ℕ → Bool) → ServerState → Stamp → ServerInput → ServerTurn
step_of clients n now i = demanding (granting (suspecting_on (take_of clients (thefts (turn n []) now) now i) now i) now) now i
