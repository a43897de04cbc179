use Rattle.st_laws_safe.proofs.Gathered.{every_run}
use Rattle.st_laws_safe.proofs.every_run_is_safe.Goals as goal

pub returns : goal.returns
returns c = every_run
