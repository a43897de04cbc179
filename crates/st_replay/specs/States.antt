-- A replay on its way: what follows, and which states there are.
use Rattle.std.specs.Prelude.{◌≡◌, ◌≤◌, ◌<◌, take, get_or, ℕ, ◌+◌, ◌-◌, ◌*◌, ◌==◌, true, not, List, ◌++◌, length, Option, Some, None, Result, Ok, Err}
use Rattle.std.specs.List.{list_all}
use Rattle.st_rules.specs.World.{World}
use Rattle.st_schedule.specs.declared.reader.Progress.{Progress}
use Rattle.st_schedule.specs.declared.reader.Progress.TheVariants as progress
use Rattle.st_schedule.specs.Reader.{Told, nodes_of}
use Rattle.st_runs.specs.declared.fault.LineRefusal.{LineRefusal}
use Rattle.st_runs.specs.declared.fault.LineRefusal.TheVariants as why
use Rattle.st_replay.specs.declared.fault.Stop.{Stop}
use Rattle.st_replay.specs.declared.fault.Stop.TheVariants as stops
use Rattle.st_runs.specs.Schedule.{Schedule, lines_of, schedule_of}
use Rattle.st_replay.specs.Pieces.{whole_lines}
use Rattle.st_runs.specs.Replay.{Replay, Stopped, behind, replay_from, replay_lines}

-- the replay of the rest of a schedule in a world
abbrev pub from_world : World → Schedule → Replay
from_world w s = replay_from (w.tally.events + 1) w s

-- the replay of these lines, the first of which has this number, for a reader that has read the head
abbrev pub from_line : World → Progress → ℕ → List (List ℕ) → Replay
from_line w p line ls = from_world w (schedule_of ls line p)

-- the same, also if the head was not read yet
abbrev pub from_here : Option World → Progress → ℕ → List (List ℕ) → Replay
from_here None p line ls = replay_lines ls
from_here (Some w) p line ls = from_line w p line ls

-- a reader that has read the head, the world of the run so far, and the number of the next line
abbrev pub IsPlaying : World → Progress → ℕ → Type 0
IsPlaying w (progress.Reading form counts done) line =
    (1 ≤ nodes_of counts) × (length w.clocks ≡ nodes_of counts) × (w.tally.events ≡ done) × (done ≤ 100000) × (line ≡ done + 2)
IsPlaying w progress.Ended line = (w.tally.events ≤ 100000) × (line ≡ w.tally.events + 3)
IsPlaying w progress.Nothing line = ⊥

-- the same, or nothing was read
abbrev pub IsHere : Option World → Progress → ℕ → Type 0
IsHere None progress.Nothing line = line ≡ 1
IsHere None p line = ⊥
IsHere (Some w) p line = IsPlaying w p line

-- a line could not be read, for this reason
abbrev pub IsUnread : Told → LineRefusal → Type 0
IsUnread read (why.Schedule f) = read ≡ Err f
IsUnread read (why.World f) = ⊥

-- the fact holds of the line at which a call was stopped, and of why
abbrev pub AtStop : Stop → (ℕ → LineRefusal → Type 0) → Type 0
AtStop (stops.Line line f) fact = fact line f
AtStop stops.Memory fact = Unit {0}

-- the same, if a call was stopped
abbrev pub OnStop : {T : Type 0} → Result T Stop → (ℕ → LineRefusal → Type 0) → Type 0
OnStop (Ok x) fact = Unit {0}
OnStop (Err s) fact = AtStop s fact

-- the text so far, and then a refusal, are this replay
abbrev pub EndsAt : List ℕ → ℕ → LineRefusal → Replay → Type 0
EndsAt new line f r = record { front = new; last = Stopped line f } ≡ r

-- Bytes and their lines.

-- no newline is among these bytes
abbrev pub HasNone : List ℕ → Type 0
HasNone bytes = list_all (λ b. not (b == 10)) bytes ≡ true

-- the place of the first newline
abbrev pub IsFirst : List ℕ → Option ℕ → Type 0
IsFirst bytes None = HasNone bytes
IsFirst bytes (Some at) = (at < length bytes) × (get_or bytes at 0 ≡ 10) × HasNone (take at bytes)

-- these lines are the first ones of some bytes, and the others are those of the bytes that are left, whatever follows
pub record Handled (bytes left : List ℕ) (handled : List (List ℕ)) : Type 0 where
  pub lines : (more : List ℕ) → lines_of (bytes ++ more) ≡ handled ++ lines_of (left ++ more)
  pub wholes : (more : List ℕ) → whole_lines (bytes ++ more) ≡ handled ++ whole_lines (left ++ more)

-- the text so far and what follows these lines are the text before them and what follows there
abbrev pub Goes : List ℕ → Option World → Progress → ℕ → List ℕ → Option World → Progress → ℕ → List (List ℕ) → Type 0
Goes old w p line new v q next handled =
    (ls : List (List ℕ)) → behind new (from_here v q next ls) ≡ behind old (from_here w p line (handled ++ ls))

-- at most this number of bytes more say how the replay goes on: the head and its newline, the events, the line `end`, and one
-- line more
abbrev pub needs : Progress → ℕ
needs progress.Nothing = 25700515
needs (progress.Reading form counts done) = 257 * (100000 - done) + 261
needs progress.Ended = 257

-- a player took a piece: it handled the lines that are whole now, and holds the bytes after them
pub record Feeds (old : List ℕ) (w : Option World) (p : Progress) (line : ℕ) (held : List ℕ)
    (new : List ℕ) (v : Option World) (q : Progress) (next : ℕ) (holds piece : List ℕ) : Type 0 where
  pub handled : List (List ℕ)
  pub are : Handled (held ++ piece) holds handled
  pub goes : Goes old w p line new v q next handled
  pub number : next ≡ line + length handled
  pub here : IsHere v q next
  pub none : HasNone holds
  pub few : length holds ≤ 256
  pub room : needs q + length held + length piece ≤ needs p + length holds
