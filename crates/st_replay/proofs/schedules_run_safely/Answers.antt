use Rattle.st_replay.proofs.Law.{every_schedule_runs_safely}
use Rattle.st_replay.proofs.schedules_run_safely.Goals as goal

pub returns : goal.returns
returns c = every_schedule_runs_safely
