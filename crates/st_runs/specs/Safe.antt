-- Safe replays: which run the lines of a schedule describe, and what is promised about it. docs/PROTOCOL.md, "What is promised".
use Rattle.std.specs.Prelude.{◌≡◌, ℕ, true, List, ◌∷◌, Ok}
use Rattle.std.specs.List.{list_all}
use Rattle.st_base.specs.declared.config.Config.{Config}
use Rattle.st_messages.specs.declared.event.Counts.{Counts}
use Rattle.st_rules.specs.Report.{opening}
use Rattle.st_promises.specs.Safe.{IsSafeRun}
use Rattle.st_rules.specs.Safety.{IsHead, is_event}
use Rattle.st_rules.specs.World.{World, fresh_world}
use Rattle.st_schedule.specs.declared.reader.Line.TheVariants as said
use Rattle.st_schedule.specs.declared.reader.Progress.{Progress}
use Rattle.st_schedule.specs.declared.reader.Progress.TheVariants as progress
use Rattle.st_schedule.specs.Reader.{nodes_of, read_line}
use Rattle.st_runs.specs.Replay.{behind, replay_from, replay_lines}
use Rattle.st_runs.specs.Schedule.{Schedule, schedule_of}

-- the world of a head
abbrev pub world_of : Config → Counts → ℕ → World
world_of k n form = fresh_world k n.clients n.servers n.disks n.blocks form

-- the first of these lines is read as this head, and this is the schedule of the lines after it
pub record IsScheduleOf (ls : List (List ℕ)) (k : Config) (n : Counts) (form : ℕ) (s : Schedule) : Type 0 where
  pub first : List ℕ
  pub others : List (List ℕ)
  pub reader : Progress
  pub lines : ls ≡ first ∷ others
  pub head : read_line progress.Nothing first ≡ Ok (said.Head k n form, reader)
  pub behind : s ≡ schedule_of others 2 reader

-- The head and the events are in their ranges; the replay of these lines is that of the run of the events from the world of the head;
-- and every step of this run, up to the first event that is refused, keeps every promise.
pub record IsSafeReplay (ls : List (List ℕ)) (k : Config) (n : Counts) (form : ℕ) (s : Schedule) : Type 0 where
  pub head : IsHead k n.clients n.servers n.disks n.blocks form
  pub events : list_all (is_event (nodes_of n)) s.events ≡ true
  pub replay : replay_lines ls ≡ behind opening (replay_from 1 (world_of k n form) s)
  pub safe : IsSafeRun (world_of k n form) s.events

-- these lines run safely: a line that isn't a head is followed by no run
abbrev pub RunsSafely : List (List ℕ) → Type 0
RunsSafely ls = (k : Config) (n : Counts) (form : ℕ) (s : Schedule) → IsScheduleOf ls k n form s → IsSafeReplay ls k n form s

-- all lines do
abbrev pub EveryScheduleRunsSafely : Type 0
EveryScheduleRunsSafely = (ls : List (List ℕ)) → RunsSafely ls
