-- What the rules of a server leave, and what a step leaves that runs out of memory.
use Rattle.std.specs.Prelude.{◌≡◌, ◌⊎◌, ℕ, List, Option, Result, Ok, Err}
use Rattle.st_base.specs.declared.ids.ClientId.{ClientId}
use Rattle.st_base.specs.declared.ids.Life.{Life}
use Rattle.st_base.specs.declared.ids.Stamp.{Stamp}
use Rattle.st_base.specs.declared.ids.GrantNo.{GrantNo}
use Rattle.st_base.specs.declared.mode.Mode.{Mode}
use Rattle.st_messages.specs.declared.message.Body.{Body}
use Rattle.st_messages.specs.declared.message.Body.TheVariants as bodies
use Rattle.st_messages.specs.declared.message.Header.{Header}
use Rattle.st_messages.specs.declared.message.Why.TheVariants as why
use Rattle.st_messages.specs.declared.output.Note.TheVariants as notes
use Rattle.st_messages.specs.declared.output.Output.{Output}
use Rattle.st_messages.specs.declared.output.StepFault.{StepFault}
use Rattle.st_messages.specs.declared.output.StepFault.TheVariants.{Memory, Crashed}
use Rattle.st_rules.specs.declared.input.ServerInput.{ServerInput}
use Rattle.st_rules.specs.declared.node.StepRefusal.{StepRefusal}
use Rattle.st_rules.specs.declared.node.StepRefusal.TheVariants as refusals
use Rattle.st_rules.specs.Locks as locks
use Rattle.st_rules.specs.Names.{Names}
use Rattle.st_rules.specs.Sessions as sessions
use Rattle.st_rules.specs.Server.{ServerTurn, Replied, ServerNode, NodeTurn, with_sessions, with_locks, note, reply, tell, sender, suspect_client, thefts, take_input, suspecting_on, granting, demanding, crash, crash_node}

-- what a rule leaves, and its reply
abbrev pub answered : ServerTurn → Option Body → Replied
answered t reply = record { turn = t; reply = reply }

-- a server's names, so far in a step
abbrev pub names_of : ServerTurn → Names
names_of t = t.state.stable.names

-- the locks of a client are stolen, whose session has this life
abbrev pub stolen : ServerTurn → ClientId → Life → ServerTurn
stolen t c life = with_sessions (sessions.end t.state.sessions c) (with_locks (locks.forget t.state.locks c) (note t (notes.Stolen c life)))

-- A crash now leaves what it would have left before.
abbrev pub Keeps : ServerTurn → ServerTurn → Type 0
Keeps old new = crash new.state ≡ crash old.state

-- After a rule that ran out of memory a crash leaves what it would have left before the rule, or after it.
abbrev pub Fails : ServerTurn → ServerTurn → ServerTurn → Type 0
Fails old new rule = (crash new.state ≡ crash old.state) ⊎ (crash new.state ≡ crash rule.state)

-- the node that a step of the definition leaves, or the node before it if there is no step
abbrev pub node_after : ServerNode → Result NodeTurn StepRefusal → ServerNode
node_after old (Ok t) = t.node
node_after old (Err r) = old

-- What a node's step returns and leaves: the outputs and the node of the definition; a node that does not run stays as it is; and if memory runs out the node
-- is crashed, as from before the step or as from after it.
abbrev pub Steps : ServerNode → ServerNode → Result (List Output) StepFault → Result NodeTurn StepRefusal → Type 0
Steps old new (Ok out) rule = rule ≡ Ok (record { node = new; out = out })
Steps old new (Err Crashed) rule = (rule ≡ Err refusals.Crashed) × (new ≡ old)
Steps old new (Err Memory) rule = (new ≡ crash_node old) ⊎ (new ≡ crash_node (node_after old rule))

-- one grant is sent
abbrev pub granted_one : ServerTurn → ClientId × Life × ℕ × GrantNo × Mode → ServerTurn
granted_one t x = tell t x.0 x.1 (bodies.Granted x.2 x.3 x.4)

-- one demand is sent
abbrev pub demanded_one : ServerTurn → ClientId × Life × ℕ × GrantNo × Mode → ServerTurn
demanded_one t x = tell t x.0 x.1 (bodies.Demand x.2 x.3 x.4)

-- a step from this turn on
abbrev pub stepped : ServerTurn → Stamp → ServerInput → ServerTurn
stepped t now i = demanding (granting (suspecting_on (take_input (thefts t now) now i) now i) now) now i

-- What a step of a node that runs returns and leaves.
abbrev pub Runs : ServerNode → ServerNode → Result (List Output) StepFault → NodeTurn → Type 0
Runs old new (Ok out) rule = rule ≡ record { node = new; out = out }
Runs old new (Err Crashed) rule = ⊥
Runs old new (Err Memory) rule = (new ≡ crash_node old) ⊎ (new ≡ crash_node rule.node)
