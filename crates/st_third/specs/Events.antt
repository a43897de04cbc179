-- Events: what each of them does to a world of any form, and what is observed, in order.
use Rattle.std.specs.Prelude.{ℕ, ◌+◌, Bool, if◌then◌else◌, List, [], ◌∷◌, ◌++◌, map, Option, Some, None, Result, Ok, Err, ⊤}
use Rattle.st_base.specs.declared.ids.ClientId.{ClientId}
use Rattle.st_base.specs.declared.ids.ServerId.{ServerId}
use Rattle.st_base.specs.declared.ids.Life.{Life}
use Rattle.st_base.specs.declared.ids.Stamp.{Stamp}
use Rattle.st_base.specs.declared.ids.NodeId.{NodeId}
use Rattle.st_base.specs.declared.ids.NodeId.TheVariants as nodes
use Rattle.st_messages.specs.declared.message.Message.{Message}
use Rattle.st_messages.specs.declared.event.Event.{Event}
use Rattle.st_messages.specs.declared.event.Event.TheVariants as events
use Rattle.st_rules.specs.declared.client.ClientInput.TheVariants as inputs
use Rattle.st_rules.specs.declared.input.ServerInput.{ServerInput}
use Rattle.st_rules.specs.declared.input.ServerInput.TheVariants as serving
use Rattle.st_rules.specs.declared.observation.Observation.{Observation}
use Rattle.st_rules.specs.declared.observation.WorldRefusal.{WorldRefusal}
use Rattle.st_rules.specs.declared.world.IssuedCommand.{IssuedCommand}
use Rattle.st_rules.specs.declared.world.SentMessage.{SentMessage}
use Rattle.st_rules.specs.ClientState.{ClientState}
use Rattle.st_rules.specs.Disks as disks
use Rattle.st_rules.specs.Events as plain
use Rattle.st_rules.specs.Events.{WorldTurn, at_node, asked_once_more, counted, disks_after, end_told, is_same_instance, life_over, quiet, with_disks, with_ended, with_flushes, with_node, with_site, events_open}
use Rattle.st_rules.specs.Server.{ServerNode}
use Rattle.st_rules.specs.World.{WorldClient, clock_of, issued_of, message_of, node_of, site_of, with_numbered}
use Rattle.st_third.specs.declared.event.ThirdEvent.{ThirdEvent}
use Rattle.st_third.specs.declared.event.ThirdEvent.TheVariants as third
use Rattle.st_third.specs.declared.event.ThirdInput.{ThirdInput}
use Rattle.st_third.specs.declared.event.ThirdInput.TheVariants as takes
use Rattle.st_third.specs.declared.observation.ThirdObservation.{ThirdObservation}
use Rattle.st_third.specs.declared.observation.ThirdObservation.TheVariants as seen
use Rattle.st_third.specs.declared.output.ThirdOutput.{ThirdOutput}
use Rattle.st_third.specs.declared.output.ThirdOutput.TheVariants as says
use Rattle.st_third.specs.Client.{client_step, third_client_open}
use Rattle.st_third.specs.Limits.{is_third, limited_node, limited_site}
use Rattle.st_third.specs.Server.{node_step, third_server_open}
use Rattle.st_third.specs.State.{ClientBeside, ThirdClient, ThirdClientTurn, fresh_beside_client}
use Rattle.st_third.specs.World.{ThirdWorld, beside_of, receiver_of, refusal, third_world_open}

-- A step so far: the world, and what was observed, in order.
pub record ThirdWorldTurn : Type 0 where
  pub third : ThirdWorld
  pub seen : List ThirdObservation

-- nothing is observed
abbrev pub unseen : ThirdWorld → ThirdWorldTurn
unseen w = record { third = w; seen = [] }

-- an observation of the other forms
abbrev pub plain_seen : Observation → ThirdObservation
plain_seen o = seen.Plain o

-- with the world of a step of the other forms, and what was observed in it
abbrev pub joined : ThirdWorldTurn → WorldTurn → ThirdWorldTurn
joined sc t = record { third = record sc.third { world = t.world }; seen = sc.seen ++ map plain_seen t.seen }

-- an event as in the other forms
abbrev pub as_plain : ThirdWorld → WorldTurn → ThirdWorldTurn
as_plain w t = joined (unseen w) t

-- one more observation
abbrev pub observe : ThirdWorldTurn → ThirdObservation → ThirdWorldTurn
observe sc o = record sc { seen = sc.seen ++ o ∷ [] }

-- with what a client has beside its state
abbrev pub with_beside : ClientId → ClientBeside → ThirdWorld → ThirdWorld
with_beside c b w = record w { besides = with_numbered c.0 b w.besides }

-- The outputs of a client.

-- a life that ended because its client left, with its lease end
abbrev pub ends : ThirdWorldTurn → ClientId → ServerId → Life → Stamp → ThirdWorldTurn
ends sc c s life end =
    observe
    (record sc { third = record sc.third { world = with_ended (life_over c s life (Some end)) sc.third.world } })
    (seen.Ended c s life)

-- an output
unfoldable pub client_says : ThirdWorldTurn → ClientId → ClientState → ThirdOutput → ThirdWorldTurn
client_says sc c before (says.Plain o) = joined sc (plain.client_says (quiet sc.third.world) c before o)
client_says sc c before (says.Left op) = observe sc (seen.Left c op)
client_says sc c before (says.Unsynced op ino) = observe sc (seen.Unsynced c op ino)
client_says sc c before (says.Ended s life end) = ends sc c s life end

-- the outputs in order
unfoldable pub client_says_all : ClientId → ClientState → List ThirdOutput → ThirdWorldTurn → ThirdWorldTurn
client_says_all c before [] sc = sc
client_says_all c before (o ∷ os) sc = client_says_all c before os (client_says sc c before o)

-- A step of a client of the third form.

-- with its flush steps
abbrev pub with_flush_steps : ClientId → ClientState → ThirdWorldTurn → ThirdWorldTurn
with_flush_steps c state sc = record sc { third = record sc.third { world = (with_flushes c state (quiet sc.third.world)).world } }

-- its node after the step
abbrev pub with_client : ClientId → WorldClient → ThirdClient → ThirdWorld → ThirdWorld
with_client c site x w =
    with_beside c x.beside (record w { world = with_site c (at_node (record site.node { state = x.plain }) site) w.world })

-- the step's outputs are observed
unfoldable pub client_took : ThirdWorld → ClientId → WorldClient → ThirdClientTurn → ThirdWorldTurn
client_took w c site t =
    with_flush_steps c t.client.plain (client_says_all c site.node.state t.out (unseen (with_client c site t.client w)))

-- a client with what it has beside its state
abbrev pub third_client : WorldClient → ClientBeside → ThirdClient
third_client site b = record { plain = site.node.state; beside = b }

-- it takes an input at its clock
unfoldable pub third_takes : ThirdWorld → ClientId → ThirdInput → WorldClient → Option ClientBeside → ThirdWorldTurn
third_takes w c input site None = unseen w
third_takes w c input site (Some b) = client_took w c site (client_step w.limits (third_client site b) (clock_of w.world (nodes.Client c)) input)

-- A step of a client of the first two forms, which is never asked to leave.
unfoldable pub plain_takes : ThirdWorld → ClientId → ThirdInput → WorldClient → ThirdWorldTurn
plain_takes w c (takes.Plain input) site = as_plain w (plain.client_takes w.world c input site)
plain_takes w c (takes.Leave op s) site = unseen w

-- by the form
unfoldable pub running_takes : ThirdWorld → ClientId → ThirdInput → WorldClient → ThirdWorldTurn
running_takes w c input site = if is_third w.world.form then third_takes w c input site (beside_of w c) else plain_takes w c input site

-- A step of a client. One that does not run takes none.
unfoldable pub client_takes : ThirdWorld → ClientId → ThirdInput → WorldClient → ThirdWorldTurn
client_takes w c input site = if site.node.running then running_takes w c input site else unseen w

-- a client that is there takes an input
unfoldable pub at_client : ThirdWorld → ClientId → ThirdInput → Option WorldClient → ThirdWorldTurn
at_client w c input None = unseen w
at_client w c input (Some site) = client_takes w c input site

-- A step of a server.
unfoldable pub server_takes : ThirdWorld → ServerId → ServerInput → ServerNode → ThirdWorldTurn
server_takes w s input node =
    as_plain w (plain.server_took w.world s (node_step w.world.form node (clock_of w.world (nodes.Server s)) input))

-- a server that is there takes an input
unfoldable pub at_server : ThirdWorld → ServerId → ServerInput → Option ServerNode → ThirdWorldTurn
at_server w s input None = unseen w
at_server w s input (Some node) = server_takes w s input node

-- Tick
unfoldable pub ticks : ThirdWorld → NodeId → ThirdWorldTurn
ticks w (nodes.Client c) = at_client w c (takes.Plain inputs.Tick) (site_of w.world c)
ticks w (nodes.Server s) = at_server w s serving.Tick (node_of w.world s)

-- Ask: a client's asks are numbered from 1 over the whole run, leaves among them.
unfoldable pub asks_at : ThirdWorld → ClientId → (ℕ → ThirdInput) → Option WorldClient → ThirdWorldTurn
asks_at w c ask None = unseen w
asks_at w c ask (Some site) = client_takes w c (ask (site.asks + 1)) (asked_once_more site)

-- Delivery
unfoldable pub delivers_to : ThirdWorld → Message → NodeId → ThirdWorldTurn
delivers_to w m (nodes.Client c) = at_client w c (takes.Plain (inputs.Control m)) (site_of w.world c)
delivers_to w m (nodes.Server s) = at_server w s (serving.Control m) (node_of w.world s)

-- the message of a number is delivered
unfoldable pub delivers : ThirdWorld → Option SentMessage → ThirdWorldTurn
delivers w None = unseen w
delivers w (Some m) = delivers_to w m.message (receiver_of w.world m)

-- Report: it ends the command. The client takes it, if the instance that submitted the command
-- still runs.
unfoldable pub tells_site : ThirdWorld → ℕ → Bool → IssuedCommand → WorldClient → ThirdWorldTurn
tells_site w k ok c site =
    if is_same_instance c site then client_takes w c.client (takes.Plain (end_told w.world k ok c)) site else unseen w

-- a client that is there is told
unfoldable pub tells_client : ThirdWorld → ℕ → Bool → IssuedCommand → Option WorldClient → ThirdWorldTurn
tells_client w k ok c None = unseen w
tells_client w k ok c (Some site) = tells_site w k ok c site

-- the client of a command is told
unfoldable pub tells : ThirdWorld → ℕ → Bool → Option IssuedCommand → ThirdWorldTurn
tells w k ok None = unseen w
tells w k ok (Some c) = tells_client w k ok c (site_of w.world c.client)

-- the command's end, at the disks
abbrev pub with_report : ℕ → Bool → ThirdWorld → ThirdWorld
with_report k ok w = record w { world = with_disks (disks_after w.world.disks (disks.done w.world.disks k ok)) w.world }

-- the command of a number is reported
unfoldable pub reports_of : ThirdWorld → ℕ → Bool → ThirdWorldTurn
reports_of w k ok = tells (with_report k ok w) k ok (issued_of w.world k)

-- A node of the third form that crashed or started has its limits, and a client has nothing beside its
-- state.

-- a client that is there
unfoldable pub client_begins : ThirdWorldTurn → ClientId → Option WorldClient → ThirdWorldTurn
client_begins sc c None = sc
client_begins sc c (Some site) =
    record sc {
      third =
          with_beside c (fresh_beside_client site.node.state)
          (record sc.third { world = with_site c (limited_site sc.third.limits site) sc.third.world });
    }

-- a server that is there
unfoldable pub server_begins : ThirdWorldTurn → ServerId → Option ServerNode → ThirdWorldTurn
server_begins sc s None = sc
server_begins sc s (Some node) =
    record sc { third = record sc.third { world = with_node s (limited_node sc.third.limits node) sc.third.world } }

-- a client or a server
unfoldable pub node_begins : NodeId → ThirdWorldTurn → ThirdWorldTurn
node_begins (nodes.Client c) sc = client_begins sc c (site_of sc.third.world c)
node_begins (nodes.Server s) sc = server_begins sc s (node_of sc.third.world s)

-- in the third form
unfoldable pub begins : ThirdWorld → NodeId → ThirdWorldTurn → ThirdWorldTurn
begins w n sc = if is_third w.world.form then node_begins n sc else sc

-- What an admissible event of the other forms does.
unfoldable pub plain_happens : ThirdWorld → Event → ThirdWorldTurn
plain_happens w (events.Tick n) = ticks w n
plain_happens w (events.App c ask) = asks_at w c (λ op. takes.Plain (inputs.App op ask)) (site_of w.world c)
plain_happens w (events.Deliver k) = delivers w (message_of w.world k)
plain_happens w (events.Report k ok) = reports_of w k ok
plain_happens w (events.Crash n) = begins w n (as_plain w (plain.happens w.world (events.Crash n)))
plain_happens w (events.Start n) = begins w n (as_plain w (plain.happens w.world (events.Start n)))
plain_happens w e = as_plain w (plain.happens w.world e)

-- What an admissible event does.
unfoldable pub happens : ThirdWorld → ThirdEvent → ThirdWorldTurn
happens w (third.Plain e) = plain_happens w e
happens w (third.Leave c s) = asks_at w c (λ op. takes.Leave op s) (site_of w.world c)

-- one more event
abbrev pub third_counted : ThirdWorld → ThirdWorld
third_counted w = record w { world = counted w.world }

-- an event that is refused changes nothing
unfoldable pub world_by : ThirdWorld → ThirdEvent → Option WorldRefusal → Result ThirdWorldTurn WorldRefusal
world_by w e None = Ok (happens (third_counted w) e)
world_by w e (Some r) = Err r

-- The step: of an event that is admissible, or its refusal.
unfoldable pub world_step : ThirdWorld → ThirdEvent → Result ThirdWorldTurn WorldRefusal
world_step w e = world_by w e (refusal w e)

-- opens all of this file and of those below it
unfoldable pub third_events_open : ⊤
unfolding events_open third_client_open third_server_open third_world_open client_says client_says_all client_took third_takes plain_takes running_takes client_takes at_client server_takes at_server ticks asks_at delivers_to delivers tells_site tells_client tells reports_of client_begins server_begins node_begins begins plain_happens happens world_by world_step
third_events_open = tt
