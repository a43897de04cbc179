-- Schedules whose runs are runs of the volume. docs/PROTOCOL.md, "The volume".
use Rattle.std.specs.Prelude.{ℕ, List}
use Rattle.st_base.specs.declared.config.Config.{Config}
use Rattle.st_messages.specs.declared.event.Counts.{Counts}
use Rattle.st_laws_volume.specs.VolumeRuns.{IsRunOfTheVolume}
use Rattle.st_runs.specs.Safe.{IsScheduleOf, world_of}
use Rattle.st_runs.specs.Schedule.{Schedule}

-- These lines run in the volume: the run of the events after their head, up to the first that is refused, is a run of the volume. A
-- line that isn't a head is followed by no run.
abbrev pub RunsInTheVolume : List (List ℕ) → Type 0
RunsInTheVolume ls =
    (k : Config) (n : Counts) (form : ℕ) (s : Schedule)
    → IsScheduleOf ls k n form s
    → IsRunOfTheVolume (world_of k n form) s.events

-- all lines do
abbrev pub EveryScheduleRunsInTheVolume : Type 0
EveryScheduleRunsInTheVolume = (ls : List (List ℕ)) → RunsInTheVolume ls
