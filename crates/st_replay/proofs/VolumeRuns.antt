-- Every schedule runs in the volume.
use Rattle.std.proofs.Common.{ℕ, List}
use Rattle.std.specs.Prelude.{Option, Some, None, IfSome}
use Rattle.st_laws_volume.proofs.VolumeLaw.{every_run}
use Rattle.st_runs.specs.Schedule.{lines_of}
use Rattle.st_replay.specs.VolumeRuns.{EveryScheduleRunsInTheVolume, RunsInTheVolume}
use Rattle.st_replay.proofs.Law.{every_schedule_runs_safely}

pub every_schedule_runs_in_the_volume : EveryScheduleRunsInTheVolume
every_schedule_runs_in_the_volume ls k n form s is =
    let run = every_schedule_runs_safely ls k n form s is in
    every_run k n.clients n.servers n.disks n.blocks form s.events run.head run.events

-- the bytes of a source, if it knows them, are those of a schedule that does
pub known_runs_in_the_volume : (left : Option (List ℕ)) → EveryScheduleRunsInTheVolume → IfSome left (λ bytes. RunsInTheVolume (lines_of bytes))
known_runs_in_the_volume None every = tt
known_runs_in_the_volume (Some bytes) every = every (lines_of bytes)
