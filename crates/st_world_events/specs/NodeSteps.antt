-- Steps of nodes in the world.
use Rattle.std.specs.Prelude.{◌≡◌, ℕ, List, set, Result, Ok, Err}
use Rattle.st_messages.specs.declared.output.Output.{Output}
use Rattle.st_messages.specs.declared.output.StepFault.{StepFault}
use Rattle.st_messages.specs.declared.output.StepFault.TheVariants.{Memory, Crashed}
use Rattle.st_rules.specs.declared.node.StepRefusal.{StepRefusal}
use Rattle.st_rules.specs.declared.node.StepRefusal.TheVariants as refusals
use Rattle.st_rules.specs.Client as client
use Rattle.st_rules.specs.Client.{ClientNode}
use Rattle.st_rules.specs.Server as server
use Rattle.st_rules.specs.Server.{ServerNode}
use Rattle.st_rules.specs.Events.{at_node}
use Rattle.st_rules.specs.World.{WorldClient}

-- What a step of a client in the world returns and leaves; after memory ran out nothing is promised.
abbrev pub SiteSteps : WorldClient → WorldClient → Result (List Output) StepFault → Result client.NodeTurn StepRefusal → Type 0
SiteSteps old new (Ok out) rule = (rule ≡ Ok (record { node = new.node; out = out })) × (new ≡ at_node new.node old)
SiteSteps old new (Err Crashed) rule = (rule ≡ Err refusals.Crashed) × (new ≡ old)
SiteSteps old new (Err Memory) rule = Unit {0}

-- the client at a place took a step, to this node
pub record Took (i : ℕ) (site : WorldClient) (old new : List WorldClient) (out : List Output) (rule : Result client.NodeTurn StepRefusal) : Type 0 where
  pub node : ClientNode
  pub turn : rule ≡ Ok (record { node = node; out = out })
  pub clients : new ≡ set old i (at_node node site)

-- what a step of the client at a place returns and leaves
abbrev pub SitesStep : ℕ → WorldClient → List WorldClient → List WorldClient → Result (List Output) StepFault → Result client.NodeTurn StepRefusal → Type 0
SitesStep i site old new (Ok out) rule = Took i site old new out rule
SitesStep i site old new (Err Crashed) rule = (rule ≡ Err refusals.Crashed) × (new ≡ old)
SitesStep i site old new (Err Memory) rule = Unit {0}

-- the server at a place took a step, to this node
pub record Served (i : ℕ) (old new : List ServerNode) (out : List Output) (rule : Result server.NodeTurn StepRefusal) : Type 0 where
  pub node : ServerNode
  pub turn : rule ≡ Ok (record { node = node; out = out })
  pub servers : new ≡ set old i node

-- what a step of the server at a place returns and leaves
abbrev pub ServersStep : ℕ → List ServerNode → List ServerNode → Result (List Output) StepFault → Result server.NodeTurn StepRefusal → Type 0
ServersStep i old new (Ok out) rule = Served i old new out rule
ServersStep i old new (Err Crashed) rule = (rule ≡ Err refusals.Crashed) × (new ≡ old)
ServersStep i old new (Err Memory) rule = Unit {0}
