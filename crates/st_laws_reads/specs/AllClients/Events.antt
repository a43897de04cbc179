-- The copies of all clients of a world through events at which no client takes an input, and what other laws owe there.
use Rattle.std.specs.Prelude.{◌≡◌, ℕ, ◌≤◌, ◌⊎◌, true, List, [], ◌∷◌, Option, Some, None, Result, Ok, Err}
use Rattle.st_base.specs.declared.ids.FileId.{FileId}
use Rattle.st_base.specs.declared.ids.NodeId.{NodeId}
use Rattle.st_base.specs.declared.ids.NodeId.TheVariants as nodes
use Rattle.st_base.specs.declared.ids.PageNo.{PageNo}
use Rattle.st_base.specs.declared.ids.ServerId.{ServerId}
use Rattle.st_messages.specs.declared.ask.Ask.{Ask}
use Rattle.st_messages.specs.declared.event.Event.{Event}
use Rattle.st_messages.specs.declared.event.Event.TheVariants as events
use Rattle.st_messages.specs.declared.message.Message.{Message}
use Rattle.st_messages.specs.declared.output.Note.TheVariants as notes
use Rattle.st_messages.specs.declared.output.Output.{Output}
use Rattle.st_messages.specs.declared.output.Output.TheVariants as outputs
use Rattle.st_rules.specs.declared.input.ServerInput.{ServerInput}
use Rattle.st_rules.specs.declared.input.ServerInput.TheVariants as serving
use Rattle.st_rules.specs.declared.log.LogEntry.{LogEntry}
use Rattle.st_rules.specs.declared.node.StepRefusal.{StepRefusal}
use Rattle.st_rules.specs.declared.world.SentMessage.{SentMessage}
use Rattle.st_rules.specs.ClientState.{Association}
use Rattle.st_rules.specs.Events.{WorldTurn, counted, world_step}
use Rattle.st_rules.specs.FlatLog.{is_of_life, is_pending}
use Rattle.st_rules.specs.Keys.{client}
use Rattle.st_rules.specs.Server as server
use Rattle.st_rules.specs.Server.{ServerNode}
use Rattle.st_rules.specs.World.{World, WorldClient, clock_of, message_of, node_of, receiver_of}
use Rattle.st_protocol.specs.Assoc.{Config}
use Rattle.st_lemmas.specs.Lists.{Has}
use Rattle.st_laws_refine.specs.Views.Halves.{held_in}
use Rattle.st_laws_leases.specs.Sides.World.{AllStand}
use Rattle.st_laws_refine.specs.Client.Invariants.{Lasts}
use Rattle.st_laws_reads.specs.Copies.Copies.{Nothing}
use Rattle.st_laws_reads.specs.Copies.World.{taken}
use Rattle.st_laws_reads.specs.AllClients.Law.{Running, UnheldBy}
use Rattle.st_laws_reads.specs.AllClients.World.{CopiesHold}

-- an entry of no present life of a client that runs
abbrev pub OfFrozen : World → LogEntry → Type 0
OfFrozen w e =
    (c : ℕ) (site : WorldClient) (a : Association) → Running w c site → Has a site.node.state.associations →
    is_of_life (client c) a.server a.life e.of ≡ true → ⊥

-- What is pending of lives that are over stands alone too: no client that runs has a lock on its file, under a lease that is not over.
abbrev pub FrozenStandAlone : World → Type 0
FrozenStandAlone w =
    (e : LogEntry) → Has e w.log → is_pending e.fate ≡ true → OfFrozen w e → (d : ℕ) (other : WorldClient) → Running w d other →
    UnheldBy w d other e

-- where these associations are, a file is cut that is not locked, or of which nothing is cached from the page on
abbrev pub CutFreeOf : FileId → PageNo → ℕ → ℕ → List Association → Type 0
CutFreeOf f p lease now [] = Unit {0}
CutFreeOf f p lease now (a ∷ xs) =
    record {
      one : Lasts lease now a.session → f.server ≡ a.server →
          ((held_in a.session f.ino).mode ≡ 0) ⊎ ((q : PageNo) → p.0 ≤ q.0 → Nothing a.store f.ino q);
      rest : CutFreeOf f p lease now xs;
    }

-- of each client that runs
abbrev pub CutFree : World → FileId → PageNo → Type 0
CutFree w f p = (d : ℕ) (site : WorldClient) → Running w d site →
    CutFreeOf f p site.node.state.config.lease (clock_of w (nodes.Client (client d))).0 site.node.state.associations

-- each cut that outputs note
abbrev pub CutsFree : World → List Output → Type 0
CutsFree w os = (f : FileId) (p : PageNo) → Has (outputs.Note (notes.CutDone f p)) os → CutFree w f p

-- at a server's step
abbrev pub TurnFree : World → Result server.NodeTurn StepRefusal → Type 0
TurnFree w (Ok t) = CutsFree w t.out
TurnFree w (Err r) = Unit {0}

-- at a server that is there
abbrev pub ServerFree : World → ServerId → ServerInput → Option ServerNode → Type 0
ServerFree w s input None = Unit {0}
ServerFree w s input (Some node) = TurnFree w (server.node_step node (clock_of w (nodes.Server s)) input)

-- at the receiver of a message
abbrev pub ReceiverFree : World → Message → NodeId → Type 0
ReceiverFree w m (nodes.Client c) = Unit {0}
ReceiverFree w m (nodes.Server s) = ServerFree w s (serving.Control m) (node_of w s)

-- at the message of a number
abbrev pub MessageFree : World → Option SentMessage → Type 0
MessageFree w None = Unit {0}
MessageFree w (Some m) = ReceiverFree w m.message (receiver_of m)

-- What is owed at an event at which no client takes an input: a cut is free, and frozen lives stand alone at a crash and at an advance.
abbrev pub OthersOwed : World → Event → Type 0
OthersOwed w (events.Tick (nodes.Server s)) = ServerFree w s serving.Tick (node_of w s)
OthersOwed w (events.Deliver k) = MessageFree w (message_of w k)
OthersOwed w (events.Crash (nodes.Client c)) = FrozenStandAlone w
OthersOwed w (events.Advance steps) = FrozenStandAlone w
OthersOwed w e = Unit {0}

-- An event at which no client takes an input keeps the copies of all clients: restarts, effects, a server's steps, advances.
abbrev pub OthersKeepCopies : Type 0
OthersKeepCopies =
    (asks : ℕ → ℕ → Option Ask) (k : Config) (count : ℕ) (w : World) (e : Event) (sc : WorldTurn) → AllStand k count w → world_step w e ≡ Ok sc →
    taken (counted w) e ≡ None → OthersOwed (counted w) e → CopiesHold asks w → CopiesHold asks sc.world
