-- What comes to a client and goes out of it, and what its steps leave.
use Rattle.std.specs.Prelude.{◌≡◌, ◌+◌, Bool, true, nat_le, List, length, Result, Ok, Err}
use Rattle.st_messages.specs.declared.output.Note.{Note}
use Rattle.st_messages.specs.declared.output.Note.TheVariants as notes
use Rattle.st_messages.specs.declared.output.Output.{Output}
use Rattle.st_messages.specs.declared.output.Output.TheVariants as outputs
use Rattle.st_messages.specs.declared.output.StepFault.{StepFault}
use Rattle.st_messages.specs.declared.output.StepFault.TheVariants.{Memory, Crashed}
use Rattle.st_messages.specs.Ranges.{fits, is_ask}
use Rattle.st_rules.specs.declared.client.ClientInput.{ClientInput}
use Rattle.st_rules.specs.declared.client.ClientInput.TheVariants.{Tick, App, Control, Done}
use Rattle.st_rules.specs.declared.node.StepRefusal.{StepRefusal}
use Rattle.st_rules.specs.declared.node.StepRefusal.TheVariants as refusals
use Rattle.st_rules.specs.Client.{ClientNode, NodeTurn, crash_node}

-- a message or an ask that comes has every field in its range
abbrev pub comes_fit : ClientInput → Bool
comes_fit Tick = true
comes_fit (App op ask) = is_ask ask
comes_fit (Control m) = fits m
comes_fit (Done number result) = true

-- a patch that is noted lies in its page
abbrev pub is_noted : Note → Bool
is_noted (notes.Patched f p at bytes) = nat_le (at + length bytes) 4096
is_noted note = true

-- an output that goes out: a message fits, and a patch lies in its page
abbrev pub is_sent : Output → Bool
is_sent (outputs.Send m) = fits m
is_sent (outputs.Note n) = is_noted n
is_sent o = true

-- What a step of a client that runs returns and leaves.
abbrev pub Runs : ClientNode → ClientNode → Result (List Output) StepFault → NodeTurn → Type 0
Runs old new (Ok out) rule = rule ≡ record { node = new; out = out }
Runs old new (Err Crashed) rule = ⊥
Runs old new (Err Memory) rule = new ≡ crash_node old

-- What a node's step returns and leaves: the outputs and the node of the definition; a node that does not run stays as it is; and if memory runs out the node
-- is crashed, in the lives from before the step.
abbrev pub Steps : ClientNode → ClientNode → Result (List Output) StepFault → Result NodeTurn StepRefusal → Type 0
Steps old new (Ok out) rule = rule ≡ Ok (record { node = new; out = out })
Steps old new (Err Crashed) rule = (rule ≡ Err refusals.Crashed) × (new ≡ old)
Steps old new (Err Memory) rule = new ≡ crash_node old
