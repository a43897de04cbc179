-- What a reader of lines makes of the next line, and of their end. docs/PROTOCOL.md, "Schedules".
use Rattle.std.specs.Prelude.{◌≡◌, ◌<◌, ◌≤◌, ℕ, ◌+◌, nat_lt, if◌then◌else◌, List, [], ◌∷◌, codes, length, Option, Some, None, Result, Ok, Err}
use Rattle.std.specs.Str.{bytes_eq}
use Rattle.st_base.specs.Config.{check}
use Rattle.st_base.specs.declared.config.Config.{Config}
use Rattle.st_base.specs.declared.config.ConfigRefusal.{ConfigRefusal}
use Rattle.st_messages.specs.declared.event.Counts.{Counts}
use Rattle.st_messages.specs.declared.event.Event.{Event}
use Rattle.st_schedule.specs.declared.fault.Fault.{Fault}
use Rattle.st_schedule.specs.declared.fault.Fault.TheVariants as faults
use Rattle.st_schedule.specs.declared.fault.ReadError.{ReadError}
use Rattle.st_schedule.specs.declared.fault.ReadError.TheVariants as errors
use Rattle.st_schedule.specs.declared.fault.ScheduleRefusal.{ScheduleRefusal}
use Rattle.st_schedule.specs.declared.fault.ScheduleRefusal.TheVariants as refusals
use Rattle.st_schedule.specs.declared.reader.Line.{Line}
use Rattle.st_schedule.specs.declared.reader.Line.TheVariants as lines
use Rattle.st_schedule.specs.declared.reader.Progress.{Progress}
use Rattle.st_schedule.specs.declared.reader.Progress.TheVariants as progress
use Rattle.st_schedule_words.specs.Words.{split, column, is_long}
use Rattle.st_schedule.specs.Grammar.{Fits, Spells, SpellsHead}
use Rattle.st_schedule.specs.Parser.{line_event, head_at}

-- what a line says, and what the reader has read after it
abbrev pub Told : Type 0
Told = Result (Line × Progress) ScheduleRefusal

-- a fault, with its column in the line
abbrev pub told : List ℕ → Fault → ScheduleRefusal
told line (faults.Syntax rest) = refusals.Syntax (column line rest)
told line (faults.Number rest) = refusals.Number (column line rest)

-- The head.

abbrev pub started : Config × Counts × ℕ → Line × Progress
started h = (lines.Head h.0 h.1 h.2, progress.Reading (h.2) h.1 0)

abbrev pub checked : Config × Counts × ℕ → Result Unit ConfigRefusal → Told
checked h (Ok u) = Ok (started h)
checked h (Err f) = Err (refusals.Config f)

abbrev pub with_head : List ℕ → Result (Config × Counts × ℕ) Fault → Told
with_head line (Err f) = Err (told line f)
with_head line (Ok h) = checked h (check h.0)

-- line 1 begins with `tank`, and then its words are those of a head
unfoldable pub head_of_words : List ℕ → List (List ℕ) → Told
head_of_words line [] = Err refusals.NoHead
head_of_words line (w ∷ ws) = if bytes_eq w (codes "tank") then with_head line (head_at ws) else Err refusals.NoHead

unfoldable pub first_line : List ℕ → Told
first_line line = head_of_words line (split line)

-- Events, at most 100,000.

abbrev pub MOST_EVENTS : ℕ
MOST_EVENTS = 100000

abbrev pub counted : ℕ → Counts → ℕ → Event → Told
counted form counts done e =
    if nat_lt done MOST_EVENTS then Ok (lines.Event e, progress.Reading form counts (done + 1)) else Err refusals.TooMany

abbrev pub with_event : ℕ → Counts → ℕ → Option Event → Told
with_event form counts done None = Ok (lines.End, progress.Ended)
with_event form counts done (Some e) = counted form counts done e

abbrev pub with_line : ℕ → Counts → ℕ → List ℕ → Result (Option Event) Fault → Told
with_line form counts done line (Err f) = Err (told line f)
with_line form counts done line (Ok e) = with_event form counts done e

abbrev pub nodes_of : Counts → ℕ
nodes_of counts = counts.clients + counts.servers

unfoldable pub later_line : ℕ → Counts → ℕ → List ℕ → Told
later_line form counts done line = with_line form counts done line (line_event form (nodes_of counts) (split line))

-- The next line.

abbrev pub short_line : Progress → List ℕ → Told
short_line progress.Nothing line = first_line line
short_line (progress.Reading form counts done) line = later_line form counts done line
short_line progress.Ended line = Err refusals.AfterEnd

abbrev pub read_line : Progress → List ℕ → Told
read_line p line = if is_long line then Err refusals.LineTooLong else short_line p line

-- the end of the lines
abbrev pub read_end : Progress → Result Unit ScheduleRefusal
read_end progress.Nothing = Err refusals.NoHead
read_end (progress.Reading form counts done) = Err refusals.NoEnd
read_end progress.Ended = Ok tt

-- A call returned what reading gives, and moved the reader from old to new; if memory ran out, and at each refusal, the reader is where it was.
abbrev pub Answers : Progress → Progress → Result Line ScheduleRefusal → Told → Type 0
Answers old new (Ok line) read = read ≡ Ok (line, new)
Answers old new (Err refusals.Memory) read = new ≡ old
Answers old new (Err f) read = (read ≡ Err f) × (new ≡ old)

-- a call returned what reading gives, a line with the reader's next state, unless memory ran out
abbrev pub IsTold : Result (Line × Progress) ScheduleRefusal → Told → Type 0
IsTold (Ok x) read = read ≡ Ok x
IsTold (Err refusals.Memory) read = Unit {0}
IsTold (Err f) read = read ≡ Err f

-- the refusal of a fault, or that memory ran out
abbrev pub Tells : List ℕ → ReadError → ScheduleRefusal → Type 0
Tells line errors.Memory f = f ≡ refusals.Memory
Tells line (errors.Fault e) f = f ≡ told line e

-- a world has at most 20 nodes
abbrev pub MOST_NODES : ℕ
MOST_NODES = 20

-- every reader that has read a head of this form and with these counts, and may read another event, reads this event in this
-- line
abbrev pub IsReadBehind : ℕ → Counts → List ℕ → Event → Type 0
IsReadBehind form counts line e =
    (done : ℕ) → done < MOST_EVENTS → read_line (progress.Reading form counts done) line ≡ Ok (lines.Event e, progress.Reading form counts (done + 1))

-- the line is read as this event after every head with which the event has a line
abbrev pub IsReadAs : List ℕ → Event → Type 0
IsReadAs line e =
    (form : ℕ) (counts : Counts) → nodes_of counts ≤ MOST_NODES → Fits form (nodes_of counts) e → IsReadBehind form counts line e

-- in this place the line spells this: a head whose settings hold in line 1, later an event or the end
abbrev pub SpellsLine : Progress → List ℕ → Line → Type 0
SpellsLine progress.Nothing line (lines.Head c n form) = SpellsHead (split line) c n form × (check c ≡ Ok tt)
SpellsLine (progress.Reading form counts done) line (lines.Event e) = Spells form (nodes_of counts) (split line) e
SpellsLine (progress.Reading form counts done) line lines.End = split line ≡ codes "end" ∷ []
SpellsLine p line l = ⊥

-- a head that was read has at least one node
abbrev pub HasNodes : Progress → Type 0
HasNodes (progress.Reading form counts done) = 1 ≤ nodes_of counts
HasNodes p = Unit {0}

-- another event may follow: fewer than 100,000 were read
abbrev pub HasRoom : Progress → Line → Type 0
HasRoom (progress.Reading form counts done) (lines.Event e) = done < MOST_EVENTS
HasRoom p l = Unit {0}

-- what the reader has read after this line
abbrev pub after_line : Progress → Line → Progress
after_line p (lines.Head c n form) = progress.Reading form n 0
after_line progress.Nothing (lines.Event e) = progress.Nothing
after_line (progress.Reading form counts done) (lines.Event e) = progress.Reading form counts (done + 1)
after_line progress.Ended (lines.Event e) = progress.Ended
after_line p lines.End = progress.Ended

-- a line of at most 256 bytes that spells this in its place is read as this, if another event may follow
abbrev pub IsReadWhereSpelled : Progress → List ℕ → Line → Type 0
IsReadWhereSpelled p line said =
    SpellsLine p line said → length line ≤ 256 → HasRoom p said → read_line p line ≡ Ok (said, after_line p said)

-- a call read what the line spells in its place, if another event may follow, unless memory ran out
abbrev pub ReadsWhatIsSpelled : Progress → Progress → List ℕ → Result Line ScheduleRefusal → Type 0
ReadsWhatIsSpelled old new line result =
    (said : Line) → SpellsLine old line said → length line ≤ 256 → HasRoom old said →
    Answers old new result (Ok (said, after_line old said))
