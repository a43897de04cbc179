-- The world of every form: that of `st_rules`, its limits, and what each client of the third form
-- has beside its state. Which events are admissible.
use Rattle.std.specs.Prelude.{ℕ, Bool, nat_le, List, map, Option, Some, None, ⊤}
use Rattle.std.specs.Option.{option_or}
use Rattle.st_base.specs.declared.ids.ClientId.{ClientId}
use Rattle.st_base.specs.declared.ids.NodeId.{NodeId}
use Rattle.st_base.specs.declared.ids.NodeId.TheVariants as nodes
use Rattle.st_base.specs.declared.config.Config.{Config}
use Rattle.st_messages.specs.declared.event.Event.{Event}
use Rattle.st_messages.specs.declared.event.Event.TheVariants as events
use Rattle.st_rules.specs.declared.disks.DiskCommand.{DiskCommand}
use Rattle.st_rules.specs.declared.observation.WorldRefusal.{WorldRefusal}
use Rattle.st_rules.specs.declared.observation.WorldRefusal.TheVariants as refusals
use Rattle.st_rules.specs.declared.world.SentMessage.{SentMessage}
use Rattle.st_rules.specs.Disks.{command}
use Rattle.st_rules.specs.Admissible as admissible
use Rattle.st_rules.specs.Admissible.{is_cut, is_lost, is_told, no_node, not_running, stands, admissible_open}
use Rattle.st_rules.specs.World.{World, WorldClient, fresh_world, message_of, numbered, world_open}
use Rattle.st_third.specs.declared.event.ThirdEvent.{ThirdEvent}
use Rattle.st_third.specs.declared.event.ThirdEvent.TheVariants as third
use Rattle.st_third.specs.declared.limits.Limits.{Limits}
use Rattle.st_third.specs.Limits.{most_bytes, node_at, with_limits}
use Rattle.st_third.specs.State.{ClientBeside, fresh_beside_client}

-- The world
pub record ThirdWorld : Type 0 where
  pub world : World
  pub limits : Limits
  pub besides : List ClientBeside

-- beside a client of the world at the start
abbrev pub beside_site : WorldClient → ClientBeside
beside_site site = fresh_beside_client site.node.state

-- nothing happened so far
abbrev pub begun : Limits → World → ThirdWorld
begun m w = record { world = with_limits m w; limits = m; besides = map beside_site w.clients }

-- The world at the start: what a head describes.
unfoldable pub third_world : Config → Limits → ℕ → ℕ → ℕ → ℕ → ℕ → ThirdWorld
third_world k m clients servers disks blocks form = begun m (fresh_world k clients servers disks blocks form)

-- what a client has beside its state
abbrev pub beside_of : ThirdWorld → ClientId → Option ClientBeside
beside_of w c = numbered w.besides c.0

-- Who sent a message, and whom it is for.
abbrev pub receiver_of : World → SentMessage → NodeId
receiver_of w m = node_at w.form m.message.header.to

-- the node that it is from
abbrev pub sender_of : World → SentMessage → NodeId
sender_of w m = node_at w.form m.message.header.from

-- A full network: the messages so far have as many bytes as the form allows.
abbrev pub net_full : World → Option WorldRefusal
net_full w = stands (nat_le (most_bytes w.form) w.net.bytes) (refusals.NetFull w.net.bytes)

-- a node that is about to take a step
abbrev pub cannot_step : World → NodeId → Option WorldRefusal
cannot_step w n = option_or (not_running w n) (net_full w)

-- a message whose direction is cut
abbrev pub link_cut : World → SentMessage → Option WorldRefusal
link_cut w m = stands (is_cut w (sender_of w m) (receiver_of w m)) (refusals.LinkCut (sender_of w m) (receiver_of w m))

-- delivering the message of a number
unfoldable pub refused_delivery : World → ℕ → Option SentMessage → Option WorldRefusal
refused_delivery w k None = Some (refusals.NoMessage k)
refused_delivery w k (Some m) = option_or (is_lost k m) (option_or (link_cut w m) (cannot_step w (receiver_of w m)))

-- the report of the command of a number
unfoldable pub refused_report : World → ℕ → Bool → Option DiskCommand → Option WorldRefusal
refused_report w k ok None = Some (refusals.NoCommand k)
refused_report w k ok (Some d) = option_or (stands (is_told ok d) (refusals.DiskState k)) (net_full w)

-- an ask of a client
abbrev pub refused_ask : World → ClientId → Option WorldRefusal
refused_ask w c = option_or (no_node w (nodes.Client c)) (cannot_step w (nodes.Client c))

-- Refusal: the first one of an event that applies.
unfoldable pub plain_refusal : World → Event → Option WorldRefusal
plain_refusal w (events.Tick n) = option_or (no_node w n) (cannot_step w n)
plain_refusal w (events.App c ask) = refused_ask w c
plain_refusal w (events.Deliver k) = refused_delivery w k (message_of w k)
plain_refusal w (events.Report k ok) = refused_report w k ok (command w.disks k)
plain_refusal w e = admissible.refusal w e

-- Refusal
unfoldable pub refusal : ThirdWorld → ThirdEvent → Option WorldRefusal
refusal w (third.Plain e) = plain_refusal w.world e
refusal w (third.Leave c s) = refused_ask w.world c

-- opens all of this file and of those below it
unfoldable pub third_world_open : ⊤
unfolding world_open admissible_open third_world refused_delivery refused_report plain_refusal refusal
third_world_open = tt
