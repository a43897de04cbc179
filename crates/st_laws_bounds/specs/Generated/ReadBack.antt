-- The text of a generated schedule is read back as its events.
use Rattle.std.specs.Prelude.{◌≡◌, ◌≤◌, ℕ, List, Ok}
use Rattle.st_schedule.specs.declared.reader.Line.TheVariants as said
use Rattle.st_schedule.specs.declared.reader.Progress.TheVariants as progress
use Rattle.st_schedule_words.specs.Words.{line_of}
use Rattle.st_schedule.specs.Grammar.{head_words}
use Rattle.st_schedule.specs.Reader.{MOST_EVENTS, read_line}
use Rattle.st_rules.specs.Generator.{settings, generate}
use Rattle.st_generate.specs.GeneratedText.{counts, generate_text}
use Rattle.st_generate.specs.Law.{run_of}
use Rattle.st_rules.specs.Report.{report}
use Rattle.st_runs.specs.Replay as replay
use Rattle.st_runs.specs.Replay.{replay_of, report_of}
use Rattle.st_runs.specs.Schedule.{Schedule, Whole, lines_of, schedule_of}

-- a whole schedule of these events
abbrev pub whole : List Rattle.st_messages.specs.declared.event.Event.Event → Schedule
whole es = record { events = es; ending = Whole }

-- The first line is read as the head, under the first form.
abbrev pub HeadIsRead : Type 0
HeadIsRead = read_line progress.Nothing (line_of (head_words settings counts 1)) ≡ Ok (said.Head settings counts 1, progress.Reading 1 counts 0)

-- All lines of the text are read, as the events and the end.
abbrev pub TextIsRead : Type 0
TextIsRead = (n seed : ℕ) → n ≤ MOST_EVENTS → schedule_of (lines_of (generate_text n seed)) 1 progress.Nothing ≡ whole (generate n seed)

-- The replay of the text refuses no line: it goes through the end, to the world of the run.
abbrev pub TextIsReplayed : Type 0
TextIsReplayed = (n seed : ℕ) → n ≤ MOST_EVENTS → (replay_of (generate_text n seed)).last ≡ replay.Whole (run_of n seed).world

-- The report of the text is the report of the run.
abbrev pub TextIsReported : Type 0
TextIsReported = (n seed : ℕ) → n ≤ MOST_EVENTS → report_of (generate_text n seed) ≡ report (run_of n seed)
