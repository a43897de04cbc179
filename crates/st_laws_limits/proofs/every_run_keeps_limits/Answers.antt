use Rattle.st_laws_limits.proofs.LimitsKept.{every_run_keeps_limits}
use Rattle.st_laws_limits.proofs.every_run_keeps_limits.Goals as goal

pub returns : goal.returns
returns c = every_run_keeps_limits
