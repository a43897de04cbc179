-- Scripts: what a line says, and what all bytes of a script come to. docs/PROTOCOL.md, "Scripts".
use Rattle.std.specs.Prelude.{ℕ, ◌+◌, nat_lt, if◌then◌else◌, List, [], ◌∷◌, ◌++◌, codes, Option, Some, None, Result, Ok, Err}
use Rattle.std.specs.Fmt.{decimal}
use Rattle.std.specs.Str.{bytes_eq}
use Rattle.st_rules.specs.Report.{refused}
use Rattle.st_schedule.specs.declared.fault.Fault.{Fault}
use Rattle.st_schedule_words.specs.Lines.{lines_of}
use Rattle.st_schedule_words.specs.Words.{is_long, split}

-- What a command is: the event that the words of a line spell, or why they spell none; the answers to an event, each of which is a text after a space; the
-- state after it; and the last line, after that many events.
pub record Rules (State Event : Type 0) : Type 0 where
  pub event : List (List ℕ) → Result Event Fault
  pub answers : State → Event → List (List ℕ)
  pub next : State → Event → State
  pub last : ℕ → State → List ℕ

-- Lines.

abbrev pub MOST_EVENTS : ℕ
MOST_EVENTS = 10000

-- the event, if fewer than 10,000 came before it
abbrev pub counted : {Event : Type 0} → ℕ → Result Event Fault → Option (Option Event)
counted done (Err f) = None
counted done (Ok e) = if nat_lt done MOST_EVENTS then Some (Some e) else None

-- a line of at most 256 bytes: the line `end`, which has no event, or an event
abbrev pub short_line : {Event : Type 0} → ℕ → List ℕ → Result Event Fault → Option (Option Event)
short_line done line e = if bytes_eq line (codes "end") then Some None else counted done e

-- what a line says, after that many events; nothing, if it is malformed
unfoldable pub read_line : {State Event : Type 0} → Rules State Event → ℕ → List ℕ → Option (Option Event)
read_line r done line = if is_long line then None else short_line done line (r.event (split line))

-- Answers.

-- a line of the output: the event's number, and an answer
abbrev pub answer_line : ℕ → List ℕ → List ℕ
answer_line number answer = decimal number ++ answer ++ codes "\n"

-- the lines of an event
abbrev pub answer_lines : ℕ → List (List ℕ) → List ℕ
answer_lines number [] = []
answer_lines number (answer ∷ answers) = answer_line number answer ++ answer_lines number answers

-- A script.

-- how a script ends: whole, in this state, or at the line of this number
pub data Ending (State : Type 0) : Type 0 where
  Whole : State → Ending State
  Stopped : ℕ → Ending State

-- what a script comes to: all its text, and how it ends
pub record Outcome (State : Type 0) : Type 0 where
  pub text : List ℕ
  pub ending : Ending State

-- an outcome after a text
abbrev pub behind : {State : Type 0} → List ℕ → Outcome State → Outcome State
behind t o = record { text = t ++ o.text; ending = o.ending }

-- the last line of the text of a script that stops at the line of this number
abbrev pub stopped_text : ℕ → List ℕ
stopped_text line = refused line (codes " Malformed")

-- the line of this number is malformed, or missing
abbrev pub stopped : {State : Type 0} → ℕ → Outcome State
stopped line = record { text = stopped_text line; ending = Stopped line }

-- the last line was written
abbrev pub whole : {State Event : Type 0} → Rules State Event → ℕ → State → Outcome State
whole r done s = record { text = r.last done s; ending = Whole s }

-- the line `end`, with the lines that follow it: there may be none
abbrev pub ended : {State Event : Type 0} → Rules State Event → ℕ → ℕ → State → List (List ℕ) → Outcome State
ended r done line s [] = whole r done s
ended r done line s (l ∷ ls) = stopped (line + 1)

-- what was read of the line of this number, what comes of the lines after an event, and these lines
abbrev pub with_read : {State Event : Type 0} → Rules State Event → ℕ → ℕ → State → (State → Outcome State) → List (List ℕ) → Option (Option Event) → Outcome State
with_read r done line s rest ls None = stopped line
with_read r done line s rest ls (Some None) = ended r done line s ls
with_read r done line s rest ls (Some (Some e)) = behind (answer_lines (done + 1) (r.answers s e)) (rest (r.next s e))

-- what these lines come to, the first of which has this number, after that many events; if `end` is missing, the line after them is
unfoldable pub play_from : {State Event : Type 0} → Rules State Event → ℕ → ℕ → State → List (List ℕ) → Outcome State
play_from r done line s [] = stopped line
play_from r done line s (l ∷ ls) = with_read r done line s (λ t. play_from r (done + 1) (line + 1) t ls) ls (read_line r done l)

-- a script without a first line, from this state
abbrev pub script_from : {State Event : Type 0} → Rules State Event → State → List ℕ → Outcome State
script_from r s bytes = play_from r 0 1 s (lines_of bytes)

-- First lines.

abbrev pub first_of : {State : Type 0} → Result State Fault → Option State
first_of (Ok s) = Some s
first_of (Err f) = None

-- a first line, of at most 256 bytes, and the state that it begins
unfoldable pub first_line : {State : Type 0} → (List (List ℕ) → Result State Fault) → List ℕ → Option State
first_line head line = if is_long line then None else first_of (head (split line))

-- the lines after a first line
abbrev pub begun : {State Event : Type 0} → Rules State Event → List (List ℕ) → Option State → Outcome State
begun r ls None = stopped 1
begun r ls (Some s) = play_from r 0 2 s ls

-- lines of which the first one begins a state
unfoldable pub headed_lines : {State Event : Type 0} → (List (List ℕ) → Result State Fault) → Rules State Event → List (List ℕ) → Outcome State
headed_lines head r [] = stopped 1
headed_lines head r (l ∷ ls) = begun r ls (first_line head l)

-- a script with a first line
abbrev pub script_of : {State Event : Type 0} → (List (List ℕ) → Result State Fault) → Rules State Event → List ℕ → Outcome State
script_of head r bytes = headed_lines head r (lines_of bytes)
