-- A node over messages, one after another, as a stream of their frames gives them.
use Rattle.std.specs.Prelude.{◌≡◌, ◌≤◌, ℕ, List, [], ◌∷◌, ◌++◌, length, Ok}
use Rattle.std.specs.List.{flat_map, AllByRecursion}
use Rattle.st_base.specs.declared.ids.Stamp.{Stamp}
use Rattle.st_clock.specs.Readings.{after}
use Rattle.st_codec.specs.Stream.{IsFramed, message_frame}
use Rattle.st_messages.specs.declared.message.Message.{Message}
use Rattle.st_node.specs.declared.node.Node.{Node}
use Rattle.st_node.specs.Runs.{Handled, MOST, handle, node_run, passed, reading}

-- one message is handled, and then the others
abbrev pub then_others : Handled → (Node → Handled) → Handled
then_others h others = record { node = (others h.node).node; out = h.out ++ (others h.node).out }

-- a node handles these messages in order, each with the next reading of the clock
unfoldable pub handle_all : List Message → Node → List Stamp → Handled
handle_all [] n readings = passed n
handle_all (m ∷ ms) n readings = then_others (handle n (reading readings) m) (λ p. handle_all ms p (after readings))

-- the readings that are left after these messages, each of which takes one
unfoldable pub after_all : List Message → List Stamp → List Stamp
after_all [] readings = readings
after_all (m ∷ ms) readings = after_all ms (after readings)

-- a stream of whole frames, at most as many as a node takes, is run through, and each message is handled once, with one reading
abbrev pub RunsThrough : Node → List Stamp → List Message → Type 0
RunsThrough n readings ms = AllByRecursion IsFramed ms → length ms ≤ MOST →
    node_run n readings (flat_map message_frame ms) ≡ record { node = (handle_all ms n readings).node; out = (handle_all ms n readings).out; readings = after_all ms readings; stop = Ok tt }

-- Over these bytes the runs of all nodes, at all readings of a clock, stop for the same reason at the same offset.
abbrev pub StopsByBytes : List ℕ → Type 0
StopsByBytes bytes = (n m : Node) (readings others : List Stamp) → (node_run n readings bytes).stop ≡ (node_run m others bytes).stop
