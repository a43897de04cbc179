-- Idle ticks: those at which nothing is due, in a world.
use Rattle.std.specs.Prelude.{◌≡◌, Bool, true, not, List, [], Option, Some, None, Ok}
use Rattle.st_base.specs.declared.ids.NodeId.{NodeId}
use Rattle.st_base.specs.declared.ids.NodeId.TheVariants as nodes
use Rattle.st_base.specs.declared.ids.Stamp.{Stamp}
use Rattle.st_messages.specs.declared.event.Event.TheVariants as events
use Rattle.st_rules.specs.declared.world.FlushStep.{FlushStep}
use Rattle.st_rules.specs.Events.{WorldTurn, counted, world_step}
use Rattle.st_rules.specs.Server.{ServerNode}
use Rattle.st_rules.specs.World.{World, WorldClient, clock_of, node_of, site_of}
use Rattle.st_client_due.specs.ClientDue.{client_due}
use Rattle.st_due.specs.Moments.{is_due}
use Rattle.st_due.specs.ServerDue.{server_due}

-- nothing is due at a client, if it is there
abbrev pub is_client_idle : Stamp → Option WorldClient → Bool
is_client_idle now None = true
is_client_idle now (Some site) = not (is_due (client_due site.node.state now) now)

-- nothing is due at a server, if it is there
abbrev pub is_server_idle : Stamp → Option ServerNode → Bool
is_server_idle now None = true
is_server_idle now (Some node) = not (is_due (server_due node.state) now)

-- nothing is due at a node by its clock
abbrev pub is_idle : World → NodeId → Bool
is_idle w (nodes.Client c) = is_client_idle (clock_of w (nodes.Client c)) (site_of w c)
is_idle w (nodes.Server s) = is_server_idle (clock_of w (nodes.Server s)) (node_of w s)

-- one more event, and these flush steps
abbrev pub with_tick : List FlushStep → World → World
with_tick xs w = record (counted w) { flushed = xs }

-- Nothing is observed, and nothing changes but the number of events and the flush steps.
pub record IsQuiet (w : World) (sc : WorldTurn) : Type 0 where
  pub quiet : sc.seen ≡ []
  pub same : sc.world ≡ with_tick sc.world.flushed w

-- so is each idle tick of a world
abbrev pub IdleTicksAreQuiet : Type 0
IdleTicksAreQuiet = (w : World) (n : NodeId) (sc : WorldTurn) → is_idle w n ≡ true → world_step w (events.Tick n) ≡ Ok sc → IsQuiet w sc
