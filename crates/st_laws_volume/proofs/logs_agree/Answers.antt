use Rattle.st_laws_safe.proofs.Gathered.{every_run}
use Rattle.st_laws_volume.proofs.Logs as proved
use Rattle.st_laws_volume.proofs.logs_agree.Goals as goal

pub returns : goal.returns
returns c = proved.logs_agree every_run
