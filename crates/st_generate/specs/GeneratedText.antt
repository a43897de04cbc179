-- The text of a generated schedule, and the line that tells what its run counts.
use Rattle.std.specs.Prelude.{ℕ, List, ◌++◌, codes, ⊤}
use Rattle.std.specs.List.{flat_map}
use Rattle.st_messages.specs.declared.event.Counts.{Counts}
use Rattle.st_messages.specs.declared.event.Event.{Event}
use Rattle.st_rules.specs.Report.{ended, report_open}
use Rattle.st_schedule_words.specs.Words.{line_of}
use Rattle.st_schedule.specs.Grammar.{head_words, words, words_after, ask_words, name_words}
use Rattle.st_rules.specs.Generator.{settings, generate, work, generator_open}

-- the counts of the head
abbrev pub counts : Counts
counts = record { clients = 3; servers = 2; disks = 2; blocks = 64 }

-- a line of these words
abbrev pub line : List (List ℕ) → List ℕ
line ws = line_of ws ++ codes "\n"

-- the line of an event
abbrev pub event_line : Event → List ℕ
event_line e = line (words e)

-- the line of the head
abbrev pub head_line : List ℕ
head_line = line (head_words settings counts 1)

-- the head, these events and the end
unfoldable pub schedule_text : List Event → List ℕ
schedule_text es = head_line ++ flat_map event_line es ++ codes "end\n"

-- the text of a schedule of a length and a seed
unfoldable pub generate_text : ℕ → ℕ → List ℕ
generate_text n seed = schedule_text (generate n seed)

-- the last line of its report
unfoldable pub work_text : ℕ → ℕ → List ℕ
work_text n seed = ended (work n seed)

-- opens all of this file and of those below it
unfoldable pub generated_text_open : ⊤
unfolding generator_open report_open name_words ask_words words_after schedule_text generate_text work_text
generated_text_open = tt
