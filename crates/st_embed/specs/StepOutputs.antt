-- The outputs of a node's step for a message.
use Rattle.std.specs.Prelude.{◌==◌, if◌then◌else◌, List, [], Option, Some, None, Result, Ok, Err}
use Rattle.st_base.specs.declared.ids.Stamp.{Stamp}
use Rattle.st_messages.specs.declared.message.Message.{Message}
use Rattle.st_messages.specs.declared.output.Output.{Output}
use Rattle.st_node.specs.Runs.{client_input, server_input}
use Rattle.st_rules.specs.Client as client
use Rattle.st_rules.specs.Keys.{server_node}
use Rattle.st_rules.specs.Server as server
use Rattle.st_rules.specs.declared.client.ClientInput.{ClientInput}
use Rattle.st_rules.specs.declared.input.ServerInput.{ServerInput}
use Rattle.st_rules.specs.declared.node.StepRefusal.{StepRefusal}

-- of a step; a node that doesn't run has none
abbrev pub server_turn_out : Result server.NodeTurn StepRefusal → List Output
server_turn_out (Ok t) = t.out
server_turn_out (Err r) = []

-- of a step for an input; a message that isn't one has none
abbrev pub server_outputs_by : server.ServerNode → Stamp → Option ServerInput → List Output
server_outputs_by n now None = []
server_outputs_by n now (Some i) = server_turn_out (server.node_step n now i)

-- of a server's step; a message for another node has none
abbrev pub server_outputs : server.ServerNode → Stamp → Message → List Output
server_outputs n now m = if m.header.to == server_node n.state.id then server_outputs_by n now (server_input m) else []

-- the same of a client
abbrev pub client_turn_out : Result client.NodeTurn StepRefusal → List Output
client_turn_out (Ok t) = t.out
client_turn_out (Err r) = []

abbrev pub client_outputs_by : client.ClientNode → Stamp → Option ClientInput → List Output
client_outputs_by n now None = []
client_outputs_by n now (Some i) = client_turn_out (client.node_step n now i)

abbrev pub client_outputs : client.ClientNode → Stamp → Message → List Output
client_outputs n now m = if m.header.to == n.state.id.0 then client_outputs_by n now (client_input m) else []
