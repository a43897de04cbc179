-- A replay: what a schedule's bytes come to, which is what was observed before the last line of the report, and how the run
-- ended; and the report, its text. docs/PROTOCOL.md, "The report".
use Rattle.std.specs.Prelude.{ℕ, ◌+◌, List, [], ◌∷◌, ◌++◌, length, codes, Option, Some, None, Ok, Err}
use Rattle.st_base.specs.declared.config.Config.{Config}
use Rattle.st_base.specs.declared.config.ConfigRefusal.{ConfigRefusal}
use Rattle.st_base.specs.declared.config.ConfigRefusal.TheVariants.{Order, Rate, TooLong, Demand, Grain}
use Rattle.st_messages.specs.declared.event.Counts.{Counts}
use Rattle.st_rules.specs.declared.observation.WorldRefusal.{WorldRefusal}
use Rattle.st_rules.specs.World.{World, fresh_world}
use Rattle.st_rules.specs.Events.{summary}
use Rattle.st_rules.specs.Run.{Run, run}
use Rattle.st_rules.specs.Report as report
use Rattle.st_rules.specs.Report.{field, lines_from, ended, opening}
use Rattle.st_schedule.specs.declared.fault.ScheduleRefusal.{ScheduleRefusal}
use Rattle.st_schedule.specs.declared.fault.ScheduleRefusal.TheVariants as refusals
use Rattle.st_schedule.specs.declared.reader.Line.{Line}
use Rattle.st_schedule.specs.declared.reader.Line.TheVariants as said
use Rattle.st_schedule.specs.declared.reader.Progress.{Progress}
use Rattle.st_schedule.specs.declared.reader.Progress.TheVariants.{Nothing}
use Rattle.st_schedule.specs.Reader.{Told, read_line}
use Rattle.st_runs.specs.declared.fault.LineRefusal.{LineRefusal}
use Rattle.st_runs.specs.declared.fault.LineRefusal.TheVariants as why
use Rattle.st_runs.specs.Schedule.{lines_of, Ending, Schedule, schedule_of}
use Rattle.st_runs.specs.Schedule as schedule

-- how a replay ends: it went through the end of the schedule, to this world; or this line is refused
pub data Last : Type 0 where
  Whole : World → Last
  Stopped : ℕ → LineRefusal → Last

-- what is written before the last line of the report, and how the replay ends
pub record Replay : Type 0 where
  pub front : List ℕ
  pub last : Last

-- a replay after a text
abbrev pub behind : List ℕ → Replay → Replay
behind t r = record { front = t ++ r.front; last = r.last }

-- nothing more is observed: this line is refused
abbrev pub stopped : ℕ → LineRefusal → Replay
stopped line f = record { front = []; last = Stopped line f }

-- The last line of a report.

-- why settings are refused
abbrev pub config_refusal : ConfigRefusal → List ℕ
config_refusal Order = codes " Config Order"
config_refusal Rate = codes " Config Rate"
config_refusal TooLong = codes " Config TooLong"
config_refusal Demand = codes " Config Demand"
config_refusal Grain = codes " Config Grain"

-- why a line, or the end of the lines, is refused; no line is refused because memory ran out
abbrev pub schedule_refusal : ScheduleRefusal → List ℕ
schedule_refusal (refusals.Syntax column) = codes " Syntax" ++ field column
schedule_refusal refusals.LineTooLong = codes " LineTooLong 256"
schedule_refusal (refusals.Number column) = codes " Number" ++ field column
schedule_refusal refusals.NoHead = codes " NoHead"
schedule_refusal refusals.NoEnd = codes " NoEnd"
schedule_refusal refusals.AfterEnd = codes " AfterEnd"
schedule_refusal refusals.TooMany = codes " TooMany 100000"
schedule_refusal (refusals.Config f) = config_refusal f
schedule_refusal refusals.Memory = []

-- why a line is refused
unfoldable pub line_refusal : LineRefusal → List ℕ
line_refusal (why.Schedule f) = schedule_refusal f
line_refusal (why.World f) = report.refusal f

-- the last line
unfoldable pub last_line : Last → List ℕ
last_line (Whole w) = ended (summary w)
last_line (Stopped line f) = report.refused line (line_refusal f)

-- the text of a replay
abbrev pub text : Replay → List ℕ
text r = r.front ++ last_line r.last

-- The replay of the events of a schedule, and of its end.

-- if every event was run, the schedule's own end
abbrev pub at_end : World → Ending → Last
at_end w schedule.Whole = Whole w
at_end w (schedule.Stopped line f) = Stopped line (why.Schedule f)

-- the same, or else the event that was refused; the event of a number is in the line of that number plus 1
abbrev pub ended_by : ℕ → World → Ending → Option WorldRefusal → Last
ended_by event w ending None = at_end w ending
ended_by event w ending (Some f) = Stopped (event + 1) (why.World f)

-- the replay of a run whose first event has this number
abbrev pub run_from : ℕ → Ending → Run → Replay
run_from event ending r = record { front = lines_from event r.seen; last = ended_by (event + length r.seen) r.world ending r.refused }

-- the replay of the rest of a schedule, whose first event has this number
unfoldable pub replay_from : ℕ → World → Schedule → Replay
replay_from event w s = run_from event s.ending (run s.events w)

-- The replay of all lines.

-- of the lines after a head, for a reader that has read it
abbrev pub replay_events : Config → Counts → ℕ → Progress → List (List ℕ) → Replay
replay_events k n form p ls =
    behind opening (replay_from 1 (fresh_world k n.clients n.servers n.disks n.blocks form) (schedule_of ls 2 p))

-- of the lines after line 1, which says this; nothing but a head is read there
abbrev pub with_first : Line → Progress → List (List ℕ) → Replay
with_first (said.Head k n form) p ls = replay_events k n form p ls
with_first l p ls = stopped 1 (why.Schedule refusals.NoHead)

-- of what was read of line 1 and of the lines after it
abbrev pub with_head : List (List ℕ) → Told → Replay
with_head ls (Err f) = stopped 1 (why.Schedule f)
with_head ls (Ok read) = with_first read.0 read.1 ls

-- of these lines
unfoldable pub replay_lines : List (List ℕ) → Replay
replay_lines [] = stopped 1 (why.Schedule refusals.NoHead)
replay_lines (l ∷ ls) = with_head ls (read_line Nothing l)

-- the replay of all the bytes of a schedule
abbrev pub replay_of : List ℕ → Replay
replay_of bytes = replay_lines (lines_of bytes)

-- the report of all the bytes of a schedule
abbrev pub report_of : List ℕ → List ℕ
report_of bytes = text (replay_of bytes)
