-- Turns of a generated schedule: the next event is chosen and runs.
use Rattle.std.specs.Prelude.{◌≡◌, ℕ, List, length, Ok}
use Rattle.std.specs.List.{flat_map}
use Rattle.st_messages.specs.declared.event.Event.{Event}
use Rattle.st_rules.specs.declared.observation.Observation.{Observation}
use Rattle.st_rules.specs.Events.{world_turn, world_step}
use Rattle.st_rules.specs.Generator.{chosen, generated}
use Rattle.st_rules.specs.World.{World}
use Rattle.st_generate.specs.GeneratedText.{event_line}

-- a world of the nodes of a generated schedule: three clients and two servers, with a clock each
pub record IsReady (w : World) : Type 0 where
  pub clocks : length w.clocks ≡ 5
  pub clients : length w.clients ≡ 3
  pub servers : length w.servers ≡ 2

-- the event leads from one world to another, whatever is observed
pub record Leads (w : World) (e : Event) (v : World) : Type 0 where
  pub seen : List Observation
  pub step : world_step w e ≡ Ok (world_turn v seen)

-- the event that is chosen in a world and a state leads to this world, and to this state
pub record IsTurn (w : World) (x : ℕ) (v : World) (y : ℕ) : Type 0 where
  pub state : y ≡ (chosen w x).1
  pub leads : Leads w (chosen w x).0 v

-- the lines of the next n events, from a world and a state on
abbrev pub lines : ℕ → World → ℕ → List ℕ
lines n w x = flat_map event_line (generated n w x)
