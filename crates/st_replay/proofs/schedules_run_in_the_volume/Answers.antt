use Rattle.st_replay.proofs.VolumeRuns.{every_schedule_runs_in_the_volume}
use Rattle.st_replay.proofs.schedules_run_in_the_volume.Goals as goal

pub returns : goal.returns
returns c = every_schedule_runs_in_the_volume
