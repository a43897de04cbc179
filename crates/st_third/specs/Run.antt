-- Runs of worlds of every form, and their reports.
use Rattle.std.specs.Prelude.{ℕ, ◌+◌, List, [], ◌∷◌, ◌++◌, length, Option, Some, None, Result, Ok, Err, codes, ⊤}
use Rattle.std.specs.List.{flat_map}
use Rattle.std.specs.Fmt.{decimal}
use Rattle.st_messages.specs.declared.message.Message.{Message}
use Rattle.st_rules.specs.declared.observation.Observation.{Observation}
use Rattle.st_rules.specs.declared.observation.Observation.TheVariants as plain_seen
use Rattle.st_rules.specs.declared.observation.WorldRefusal.{WorldRefusal}
use Rattle.st_rules.specs.Report as report
use Rattle.st_rules.specs.Report.{client, field, node, server, report_open}
use Rattle.st_rules.specs.Events.{summary}
use Rattle.st_third.specs.declared.event.ThirdEvent.{ThirdEvent}
use Rattle.st_third.specs.declared.observation.ThirdObservation.{ThirdObservation}
use Rattle.st_third.specs.declared.observation.ThirdObservation.TheVariants as seen
use Rattle.st_third.specs.Events.{ThirdWorldTurn, world_step, third_events_open}
use Rattle.st_third.specs.Limits.{node_at}
use Rattle.st_third.specs.World.{ThirdWorld}

-- A run: its last world, what was observed at each event, and the refusal that ended it, if one
-- did.
pub record ThirdRun : Type 0 where
  pub third : ThirdWorld
  pub seen : List (List ThirdObservation)
  pub refused : Option WorldRefusal

-- a run without events
abbrev pub no_run : ThirdWorld → Option WorldRefusal → ThirdRun
no_run w refused = record { third = w; seen = []; refused = refused }

-- a run after what was observed before it
abbrev pub behind : List (List ThirdObservation) → ThirdRun → ThirdRun
behind os r = record r { seen = os ++ r.seen }

-- the rest of a run, after its first event
unfoldable pub go_on : (ThirdWorld → ThirdRun) → ThirdWorld → Result ThirdWorldTurn WorldRefusal → ThirdRun
go_on rest w (Err r) = no_run w (Some r)
go_on rest w (Ok sc) = behind (sc.seen ∷ []) (rest sc.third)

-- Run
unfoldable pub run : List ThirdEvent → ThirdWorld → ThirdRun
run [] w = no_run w None
run (e ∷ es) w = go_on (run es) w (world_step w e)

-- A message of a world of this form
abbrev pub message : ℕ → Message → List ℕ
message form m =
    node (node_at form m.header.from) ++ node (node_at form m.header.to) ++ report.kind m.body ++ report.header_fields m ++ report.fields m.body

-- an observation of the other forms
unfoldable pub plain_observation : ℕ → Observation → List ℕ
plain_observation form (plain_seen.Sent k m) = codes " send" ++ field k ++ message form m
plain_observation form o = report.observation o

-- Observations: the leave's answers, and a life that ended.
unfoldable pub observation : ℕ → ThirdObservation → List ℕ
observation form (seen.Plain o) = plain_observation form o
observation form (seen.Left c op) = codes " answer" ++ client c ++ field op ++ codes " left"
observation form (seen.Unsynced c op ino) = codes " answer" ++ client c ++ field op ++ codes " unsynced" ++ field ino
observation form (seen.Ended c s life) = codes " end" ++ client c ++ server s ++ field life.0

-- an event's number and one of its observations
unfoldable pub line : ℕ → ℕ → ThirdObservation → List ℕ
line form event o = decimal event ++ observation form o ++ codes "\n"

-- the observations of events, from this one on
unfoldable pub lines_from : ℕ → ℕ → List (List ThirdObservation) → List ℕ
lines_from form event [] = []
lines_from form event (os ∷ rest) = flat_map (line form event) os ++ lines_from form (event + 1) rest

-- a run that was refused, or one that reached its end
unfoldable pub ending : ThirdRun → Option WorldRefusal → List ℕ
ending r None = report.ended (summary r.third.world)
ending r (Some f) = report.refused (length r.seen + 2) (report.refusal f)

-- The report of a run
unfoldable pub third_report : ThirdRun → List ℕ
third_report r = report.opening ++ lines_from r.third.world.form 1 r.seen ++ ending r r.refused

-- opens all of this file and of those below it
unfoldable pub third_run_open : ⊤
unfolding third_events_open report_open go_on run plain_observation observation line lines_from ending third_report
third_run_open = tt
