-- What the laws of the copies and of the locks owe at an event, for the pages to hold after it: each write that is submitted is right,
-- and a cut finds nobody writing.
use Rattle.std.specs.Prelude.{◌≡◌, ℕ, ◌+◌, Bool, true, Option, Some, None, Result, Ok, Err}
use Rattle.st_base.specs.declared.ids.ClientId.{ClientId}
use Rattle.st_base.specs.declared.ids.ServerId.{ServerId}
use Rattle.st_base.specs.declared.ids.FileId.{FileId}
use Rattle.st_base.specs.declared.ids.PageNo.{PageNo}
use Rattle.st_base.specs.declared.ids.NodeId.{NodeId}
use Rattle.st_base.specs.declared.ids.NodeId.TheVariants as nodes
use Rattle.st_messages.specs.declared.ask.Ask.{Ask}
use Rattle.st_messages.specs.declared.message.Message.{Message}
use Rattle.st_messages.specs.declared.event.Event.{Event}
use Rattle.st_messages.specs.declared.event.Event.TheVariants as events
use Rattle.st_rules.specs.declared.client.ClientInput.{ClientInput}
use Rattle.st_rules.specs.declared.client.ClientInput.TheVariants as inputs
use Rattle.st_rules.specs.declared.input.ServerInput.{ServerInput}
use Rattle.st_rules.specs.declared.input.ServerInput.TheVariants as serving
use Rattle.st_rules.specs.declared.node.StepRefusal.{StepRefusal}
use Rattle.st_rules.specs.declared.world.IssuedCommand.{IssuedCommand}
use Rattle.st_rules.specs.declared.world.SentMessage.{SentMessage}
use Rattle.st_rules.specs.Client as cl
use Rattle.st_rules.specs.Server as server
use Rattle.st_rules.specs.Disks as disks
use Rattle.st_rules.specs.World as world
use Rattle.st_rules.specs.Server.{ServerNode}
use Rattle.st_rules.specs.World.{World, WorldClient, site_of, node_of, issued_of, numbered, clock_of}
use Rattle.st_rules.specs.Events as ev
use Rattle.st_rules.specs.Events.{WorldTurn}
use Rattle.st_laws_pages.specs.Disks.World.{Timely, Owes, OneCut, CutQuiet, PagesHold}
use Rattle.st_laws_steps.specs.Lives.Lives.{LivesHold}
use Rattle.st_laws_pages.specs.Fates.Fates.{FatesAreKept, GoneHold}

-- what is timely within a step: as before it, for the commands that there were
abbrev pub TimelyIn : World → ℕ → IssuedCommand → Type 0
TimelyIn w k x = numbered w.commands k ≡ Some x → Timely w k x

-- a client's step: the writes that it submits are right
pub record ClientOwes (w : World) (c : ClientId) (site : WorldClient) (t : cl.NodeTurn) : Type 0 where
  pub outputs : Owes (TimelyIn w) c site.node.state (ev.quiet (ev.with_site c (ev.at_node t.node site) w)) t.out

-- a client that does not run owes nothing
abbrev pub NodeOwes : World → ClientId → WorldClient → Result cl.NodeTurn StepRefusal → Type 0
NodeOwes w c site (Ok t) = ClientOwes w c site t
NodeOwes w c site (Err r) = Unit {0}

-- a client that takes an input
abbrev pub TakesOwes : World → ClientId → ClientInput → WorldClient → Type 0
TakesOwes w c input site = NodeOwes w c site (cl.node_step site.node (clock_of w (nodes.Client c)) input)

-- a client that is there
abbrev pub AtClient : World → ClientId → ClientInput → Option WorldClient → Type 0
AtClient w c input None = Unit {0}
AtClient w c input (Some site) = TakesOwes w c input site

-- a server's step: a cut is of a file that nobody writes
pub record ServerOwes (w : World) (s : ServerId) (t : server.NodeTurn) : Type 0 where
  pub quiet : (f : FileId) (p : PageNo) → OneCut f p t.out → CutQuiet w f p

-- a server that does not run owes nothing
abbrev pub ServerNodeOwes : World → ServerId → Result server.NodeTurn StepRefusal → Type 0
ServerNodeOwes w s (Ok t) = ServerOwes w s t
ServerNodeOwes w s (Err r) = Unit {0}

-- a server that is there
abbrev pub AtServer : World → ServerId → ServerInput → Option ServerNode → Type 0
AtServer w s input None = Unit {0}
AtServer w s input (Some node) = ServerNodeOwes w s (server.node_step node (clock_of w (nodes.Server s)) input)

-- an ask of a client that is there
abbrev pub AtAsk : World → ClientId → Ask → Option WorldClient → Type 0
AtAsk w c ask None = Unit {0}
AtAsk w c ask (Some site) = TakesOwes w c (inputs.App (site.asks + 1) ask) (ev.asked_once_more site)

-- a message at its receiver
abbrev pub AtNode : World → Message → NodeId → Type 0
AtNode w m (nodes.Client c) = AtClient w c (inputs.Control m) (site_of w c)
AtNode w m (nodes.Server s) = AtServer w s (serving.Control m) (node_of w s)

-- the message of a number
abbrev pub AtDelivery : World → Option SentMessage → Type 0
AtDelivery w None = Unit {0}
AtDelivery w (Some m) = AtNode w m.message (world.receiver_of m)

-- a client is told of a command, if the instance runs that submitted it
abbrev pub AtEnd : World → ℕ → WorldClient → Bool → IssuedCommand → Type 0
AtEnd w k site ok x = ev.is_same_instance x site ≡ true → TakesOwes w x.client (ev.end_told w k ok x) site

-- a client that is there is told
abbrev pub AtTold : World → ℕ → Bool → IssuedCommand → Option WorldClient → Type 0
AtTold w k ok x None = Unit {0}
AtTold w k ok x (Some site) = AtEnd w k site ok x

-- the report of a command
abbrev pub AtReport : World → ℕ → Bool → Option IssuedCommand → Type 0
AtReport w k ok None = Unit {0}
AtReport w k ok (Some x) = AtTold w k ok x (site_of w x.client)

-- What is owed at an event.
abbrev pub Owed : World → Event → Type 0
Owed w (events.Tick (nodes.Client c)) = AtClient w c inputs.Tick (site_of w c)
Owed w (events.Tick (nodes.Server s)) = AtServer w s serving.Tick (node_of w s)
Owed w (events.App c ask) = AtAsk w c ask (site_of w c)
Owed w (events.Deliver k) = AtDelivery w (world.message_of w k)
Owed w (events.Report k ok) = AtReport (ev.with_disks (ev.disks_after w.disks (disks.done w.disks k ok)) w) k ok (issued_of w k)
Owed w e = Unit {0}

-- The law: from what is owed, each step keeps the pages.
abbrev pub StepsKeepPages : Type 0
StepsKeepPages = (w : World) (e : Event) (sc : WorldTurn) → ev.world_step w e ≡ Ok sc → Owed (ev.counted w) e → LivesHold w → PagesHold w → PagesHold sc.world

-- What holds of lives and fates: each command's and entry's life is known; what is pending is of a life before its lease end; and what is gone is of a life
-- that a crash ended, or whose lease is over.
pub record FatesHold (w : World) : Type 0 where
  pub lives : LivesHold w
  pub pending : FatesAreKept w
  pub gone : GoneHold w

-- The law of lives and fates: each step keeps what holds of them, with no premise.
abbrev pub StepsKeepFates : Type 0
StepsKeepFates = (w : World) (e : Event) (sc : WorldTurn) → ev.world_step w e ≡ Ok sc → FatesHold w → FatesHold sc.world
