-- The lines of a schedule, and what a reader of lines makes of them, one after another. docs/PROTOCOL.md, "Schedules".
use Rattle.std.specs.Prelude.{ℕ, ◌+◌, ◌==◌, if◌then◌else◌, List, [], ◌∷◌, Result, Ok, Err}
use Rattle.st_messages.specs.declared.event.Event.{Event}
use Rattle.st_schedule.specs.declared.fault.ScheduleRefusal.{ScheduleRefusal}
use Rattle.st_schedule.specs.declared.reader.Line.{Line}
use Rattle.st_schedule.specs.declared.reader.Line.TheVariants as said
use Rattle.st_schedule.specs.declared.reader.Progress.{Progress}
use Rattle.st_schedule.specs.Reader.{Told, read_line, read_end}

-- Lines.

abbrev pub onto : ℕ → List (List ℕ) → List (List ℕ)
onto b [] = (b ∷ []) ∷ []
onto b (l ∷ ls) = (b ∷ l) ∷ ls

-- lines, each ended by a newline, which the last may lack
abbrev pub lines_of : List ℕ → List (List ℕ)
lines_of [] = []
lines_of (b ∷ bs) = if b == 10 then [] ∷ lines_of bs else onto b (lines_of bs)

-- A schedule: the events of its lines, and how it ends: at the line `end`, or at a line that is refused.

pub data Ending : Type 0 where
  Whole : Ending
  Stopped : ℕ → ScheduleRefusal → Ending

pub record Schedule : Type 0 where
  pub events : List Event
  pub ending : Ending

abbrev pub stop : Ending → Schedule
stop ending = record { events = []; ending = ending }

abbrev pub begin : Event → Schedule → Schedule
begin e rest = record { events = e ∷ rest.events; ending = rest.ending }

-- the schedule of a line and what follows it
abbrev pub before : Line → Schedule → Schedule
before (said.Event e) rest = begin e rest
before l rest = rest

-- the schedule of what was read of the line with this number, and of what follows it
abbrev pub with_told : ℕ → (Progress → Schedule) → Told → Schedule
with_told line rest (Err f) = stop (Stopped line f)
with_told line rest (Ok read) = before read.0 (rest read.1)

-- how a schedule ends that has no line with this number
abbrev pub end_at : ℕ → Result Unit ScheduleRefusal → Ending
end_at line (Ok u) = Whole
end_at line (Err f) = Stopped line f

-- the schedule of these lines, the first of which has this number, for a reader that has read this much
abbrev pub schedule_of : List (List ℕ) → ℕ → Progress → Schedule
schedule_of [] line p = stop (end_at line (read_end p))
schedule_of (l ∷ ls) line p = with_told line (schedule_of ls (line + 1)) (read_line p l)
