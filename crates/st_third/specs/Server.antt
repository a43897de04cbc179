-- The server of every form: that of `st_rules`, but it hears all clients of its form.
use Rattle.std.specs.Prelude.{ℕ, Bool, ◌&&◌, ◌==◌, if◌then◌else◌, [], Result, Ok, Err, ⊤}
use Rattle.st_base.specs.declared.ids.Stamp.{Stamp}
use Rattle.st_messages.specs.declared.message.Header.{Header}
use Rattle.st_messages.specs.declared.message.Body.{Body}
use Rattle.st_rules.specs.declared.input.ServerInput.{ServerInput}
use Rattle.st_rules.specs.declared.input.ServerInput.TheVariants.{Tick, Control}
use Rattle.st_rules.specs.declared.node.StepRefusal.{StepRefusal}
use Rattle.st_rules.specs.declared.node.StepRefusal.TheVariants.{Crashed}
use Rattle.st_rules.specs.Keys.{server_node}
use Rattle.st_rules.specs.Server as server
use Rattle.st_rules.specs.Server.{ServerNode, ServerState, ServerTurn, NodeTurn}
use Rattle.st_third.specs.Limits.{is_client_node, limits_open}

-- Receiving: a message that is not to this server, or not from a client of the form, is ignored.
abbrev pub is_for : ℕ → ServerState → Header → Bool
is_for form s h = (h.to == server_node s.id) && is_client_node form h.from

-- Receiving
unfoldable pub receive : ℕ → ServerTurn → Stamp → Header → Body → ServerTurn
receive form t now h body = if is_for form t.state h then server.receive_from t now h body else t

-- the rule for the input
unfoldable pub take_input : ℕ → ServerTurn → Stamp → ServerInput → ServerTurn
take_input form t now Tick = t
take_input form t now (Control message) = receive form t now message.header message.body

-- the passes after it
abbrev pub passes : ServerTurn → Stamp → ServerInput → ServerTurn
passes t now input = server.demanding (server.granting (server.suspecting_on t now input) now) now input

-- The step: thefts, the rule for the input, and then suspecting, granting and demanding.
unfoldable pub server_step : ℕ → ServerState → Stamp → ServerInput → ServerTurn
server_step form s now input = passes (take_input form (server.thefts (server.turn s []) now) now input) now input

-- Step: a node that does not run takes none.
unfoldable pub node_step : ℕ → ServerNode → Stamp → ServerInput → Result NodeTurn StepRefusal
node_step form n now input = if n.running then Ok (server.node_turn n (server_step form n.state now input)) else Err Crashed

-- opens all of this file and of those below it
unfoldable pub third_server_open : ⊤
unfolding server.server_open limits_open receive take_input server_step node_step
third_server_open = tt
