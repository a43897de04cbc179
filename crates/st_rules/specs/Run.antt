-- Runs: events one after another, up to the first that is refused.
use Rattle.std.specs.Prelude.{◌≡◌, List, [], ◌∷◌, ◌++◌, Option, Some, None, Result, Ok, Err, ⊤}
use Rattle.st_messages.specs.declared.event.Event.{Event}
use Rattle.st_rules.specs.declared.observation.Observation.{Observation}
use Rattle.st_rules.specs.declared.observation.WorldRefusal.{WorldRefusal}
use Rattle.st_rules.specs.World.{World}
use Rattle.st_rules.specs.Events.{WorldTurn, world_step, events_open}

-- A run: its last world, what was observed at each event, and the refusal that ended it, if one did.
pub record Run : Type 0 where
  pub world : World
  pub seen : List (List Observation)
  pub refused : Option WorldRefusal

-- a run without events
abbrev pub no_run : World → Option WorldRefusal → Run
no_run w refused = record { world = w; seen = []; refused = refused }

-- a run after what was observed before it
abbrev pub behind : List (List Observation) → Run → Run
behind seen r = record { world = r.world; seen = seen ++ r.seen; refused = r.refused }

-- the rest of a run, after its first event
unfoldable pub go_on : (World → Run) → World → Result WorldTurn WorldRefusal → Run
go_on rest w (Err r) = no_run w (Some r)
go_on rest w (Ok sc) = behind (sc.seen ∷ []) (rest sc.world)

-- Run
unfoldable pub run : List Event → World → Run
run [] w = no_run w None
run (e ∷ es) w = go_on (run es) w (world_step w e)

-- Going on: a run that was not refused goes on with more events, from where it led.
unfoldable pub run_on : List Event → Run → Option WorldRefusal → Run
run_on es r None = behind r.seen (run es r.world)
run_on es r (Some refusal) = r

-- a run over some events and then others is the run over the others from where the first ones led
abbrev pub RunsInParts : Type 0
RunsInParts = (es more : List Event) (w : World) → run (es ++ more) w ≡ run_on more (run es w) (run es w).refused

-- what was observed at any event, in order
unfoldable pub in_order : List (List Observation) → List Observation
in_order [] = []
in_order (os ∷ rest) = os ++ in_order rest

-- opens all of this file and of those below it
unfoldable pub run_open : ⊤
unfolding events_open go_on run run_on in_order
run_open = tt
