-- The run of one node over a stream of frames: what it does with each message, what it writes, and where it stops.
-- docs/PROTOCOL.md, "A node over a stream".
use Rattle.std.specs.Prelude.{ℕ, zero, suc, ◌==◌, if◌then◌else◌, List, [], ◌∷◌, ◌++◌, Option, Some, None, Result, Ok, Err}
use Rattle.std.specs.List.{flat_map}
use Rattle.st_base.specs.declared.disk.Tag.{Tag}
use Rattle.st_base.specs.declared.ids.ClientId.{ClientId}
use Rattle.st_base.specs.declared.ids.Stamp.{Stamp}
use Rattle.st_clock.specs.Readings.{after}
use Rattle.st_codec.specs.Frames.{Frames, Answer, fresh, fed, next}
use Rattle.st_codec.specs.Stream.{message_frame}
use Rattle.st_messages.specs.declared.kind.Party.{Party}
use Rattle.st_messages.specs.declared.kind.Party.TheVariants as parties
use Rattle.st_messages.specs.declared.message.Message.{Message}
use Rattle.st_messages.specs.declared.output.Output.{Output}
use Rattle.st_messages.specs.declared.output.Output.TheVariants as outputs
use Rattle.st_messages.specs.declared.message.Body.{Body}
use Rattle.st_messages.specs.declared.message.Body.TheVariants as bodies
use Rattle.st_messages.specs.declared.message.DiskResult.{DiskResult}
use Rattle.st_messages.specs.declared.message.DiskResult.TheVariants as results
use Rattle.st_messages.specs.Kinds.{kind_of_body, receiver}
use Rattle.st_rules.specs.declared.input.ServerInput.{ServerInput}
use Rattle.st_rules.specs.declared.input.ServerInput.TheVariants.{Tick, Control}
use Rattle.st_rules.specs.declared.node.StepRefusal.{StepRefusal}
use Rattle.st_rules.specs.Keys.{server_node}
use Rattle.st_rules.specs.declared.client.ClientInput.{ClientInput}
use Rattle.st_rules.specs.declared.client.ClientInput.TheVariants as inputs
use Rattle.st_rules.specs.Client as client
use Rattle.st_rules.specs.Server as server
use Rattle.st_node.specs.declared.node.Node.{Node}
use Rattle.st_node.specs.declared.node.Node.TheVariants.{Server, Client}
use Rattle.st_node.specs.declared.fault.NodeFault.{NodeFault}
use Rattle.st_node.specs.declared.fault.NodeFault.TheVariants as faults

-- One message.

-- what a node does with a message: the node after it, and the bytes of the frames that it writes
pub record Handled : Type 0 where
  pub node : Node
  pub out : List ℕ

-- the node passes the message over: no step, and no frame
abbrev pub passed : Node → Handled
passed n = record { node = n; out = [] }

-- the number of a node on the wire
abbrev pub number_of : Node → ℕ
number_of (Server n) = server_node n.state.id
number_of (Client n) = n.state.id.0

-- the input of a server that a message is: a tick comes to any node, a request to a server
abbrev pub server_input_by : Message → Party → Option ServerInput
server_input_by m parties.Node = Some Tick
server_input_by m parties.Server = Some (Control m)
server_input_by m p = None

abbrev pub server_input : Message → Option ServerInput
server_input m = server_input_by m (receiver (kind_of_body m.body))

-- the frame of a server's output: of what it sends; notes are not written, and nothing else comes from a server
abbrev pub server_frame : Output → List ℕ
server_frame (outputs.Send m) = message_frame m
server_frame o = []

-- a server after a step, and the frames of its outputs in order
abbrev pub server_stepped : server.ServerNode → Result server.NodeTurn StepRefusal → Handled
server_stepped n (Ok t) = record { node = Server t.node; out = flat_map server_frame t.out }
server_stepped n (Err r) = passed (Server n)

-- one step for an input, and none for a message that isn't an input
abbrev pub server_handle : server.ServerNode → Stamp → Option ServerInput → Handled
server_handle n now None = passed (Server n)
server_handle n now (Some i) = server_stepped n (server.node_step n now i)

-- how a disk command ended
abbrev pub disk_end : DiskResult → Option (Option (Tag × List ℕ))
disk_end results.Failed = None
disk_end results.WriteDone = Some None
disk_end (results.ReadDone t bytes) = Some (Some (t, bytes))

-- the input of a client that a body is: an ask, the end of a disk command, or else a server's message
abbrev pub client_own : Body → Message → ClientInput
client_own (bodies.App op ask) m = inputs.App op ask
client_own (bodies.Done number result) m = inputs.Done number (disk_end result)
client_own b m = inputs.Control m

-- the input of a client that a message is: a tick comes to any node
abbrev pub client_input_by : Message → Party → Option ClientInput
client_input_by m parties.Node = Some inputs.Tick
client_input_by m parties.Client = Some (client_own m.body m)
client_input_by m p = None

abbrev pub client_input : Message → Option ClientInput
client_input m = client_input_by m (receiver (kind_of_body m.body))

-- what a client tells its own surroundings
abbrev pub local : ClientId → Body → Message
local c body = record { header = record { from = c.0; to = 0; life = 0; epoch = 0; number = 0; stamp = 0 }; body = body }

-- the frame of a client's output: of what it sends, of a disk command and of an answer; notes are not written
abbrev pub client_frame : ClientId → Output → List ℕ
client_frame c (outputs.Send m) = message_frame m
client_frame c (outputs.Submit command at what) = message_frame (local c (bodies.Submit command at what))
client_frame c (outputs.Answer op answer) = message_frame (local c (bodies.AppDone op answer))
client_frame c (outputs.Note n) = []

-- a client after a step, and the frames of its outputs in order
abbrev pub client_stepped : client.ClientNode → Result client.NodeTurn StepRefusal → Handled
client_stepped n (Ok t) = record { node = Client t.node; out = flat_map (client_frame n.state.id) t.out }
client_stepped n (Err r) = passed (Client n)

abbrev pub client_handle : client.ClientNode → Stamp → Option ClientInput → Handled
client_handle n now None = passed (Client n)
client_handle n now (Some i) = client_stepped n (client.node_step n now i)

-- what the node does with a message that is for it
abbrev pub handle_own : Node → Stamp → Message → Handled
handle_own (Server n) now m = server_handle n now (server_input m)
handle_own (Client n) now m = client_handle n now (client_input m)

-- what the node does with a message at this moment
unfoldable pub handle : Node → Stamp → Message → Handled
handle n now m = if m.header.to == number_of n then handle_own n now m else passed n

-- A stream.

-- the node at the end of a run, all bytes that it wrote, the readings of the clock that it left, and why it stopped: nothing if the
-- stream ended at a frame's boundary
pub record Run : Type 0 where
  pub node : Node
  pub out : List ℕ
  pub readings : List Stamp
  pub stop : Result Unit NodeFault

-- a run that stops here
abbrev pub ended : Node → List Stamp → Result Unit NodeFault → Run
ended n readings stop = record { node = n; out = []; readings = readings; stop = stop }

-- a run after these bytes
abbrev pub behind : List ℕ → Run → Run
behind out r = record { node = r.node; out = out ++ r.out; readings = r.readings; stop = r.stop }

-- the next reading of a clock that tells its readings
abbrev pub reading : List Stamp → Stamp
reading [] = record { 0 = 0 }
reading (x ∷ xs) = x

-- the end of a stream of which this is left: less than a frame is cut
abbrev pub end_at : ℕ → List ℕ → Result Unit NodeFault
end_at offset [] = Ok tt
end_at offset (b ∷ bs) = Err (faults.Cut offset)

-- the same if no frame more may begin
abbrev pub full_at : List ℕ → Result Unit NodeFault
full_at [] = Ok tt
full_at (b ∷ bs) = Err faults.TooManyFrames

-- one message is handled, and then the rest of the run
abbrev pub then_rest : Handled → (Node → Run) → Run
then_rest h rest = behind h.out (rest h.node)

-- a run by what the reader of frames gives next
abbrev pub go_on : (Node → Frames → Run) → Node → List Stamp → Frames × Answer → Run
go_on rest n readings (f, None) = ended n readings (end_at f.offset f.rest)
go_on rest n readings (f, Some (Ok m)) = then_rest (handle n (reading readings) m) (λ n. rest n f)
go_on rest n readings (f, Some (Err r)) = ended n readings (Err (faults.Frame f.offset r))

-- the run over what a reader of frames holds, of at most this many frames, each with one reading of the clock
unfoldable pub run : ℕ → Node → List Stamp → Frames → Run
run zero n readings f = ended n readings (full_at f.rest)
run (suc k) n readings f = go_on (λ n f. run k n (after readings) f) n readings (next f)

-- a node takes at most this many frames
unfoldable pub MOST : ℕ
MOST = 1048576

-- the run over all the bytes of a stream
abbrev pub node_run : Node → List Stamp → List ℕ → Run
node_run n readings bytes = run MOST n readings (fed fresh bytes)
