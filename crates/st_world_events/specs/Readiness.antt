-- What a step of a node needs of the world.
use Rattle.std.specs.Prelude.{◌≡◌, ◌≤◌, ◌<◌, ◌^◌, true, false, length, ⊤}
use Rattle.std.specs.List.{list_all}
use Rattle.st_base.specs.declared.ids.NodeId.TheVariants as nodes
use Rattle.st_world_parts.specs.Clocks.{is_at_most}
use Rattle.st_messages.specs.declared.event.Event.{Event}
use Rattle.st_messages.specs.declared.event.Event.TheVariants as events
use Rattle.st_messages.specs.Ranges.{is_ask}
use Rattle.st_rules.specs.World.{World, is_running}
use Rattle.st_world_events.specs.Advances.{IsAccepted}

-- Clients and servers are few; no clock is above 2^62; reads and thefts are below 2^63.
pub record IsReady (w : World) : Type 0 where
  pub some : 1 ≤ length w.servers
  pub few : length w.servers ≤ 4
  pub clients : length w.clients ≤ 16
  pub clocks : list_all (is_at_most (2 ^ 62)) w.clocks ≡ true
  pub reads : w.tally.reads < 2 ^ 63
  pub stolen : w.tally.stolen < 2 ^ 63

-- What an event that is not refused meets: the node that is asked runs, the one that is started does not, and an advance is in bound.
abbrev pub IsMet : World → Event → Type 0
IsMet w (events.App c ask) = (is_ask ask ≡ true) × (is_running w (nodes.Client c) ≡ true)
IsMet w (events.Advance steps) = IsAccepted w steps
IsMet w (events.Start n) = is_running w n ≡ false
IsMet w e = ⊤
