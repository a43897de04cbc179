use Rattle.st_laws_safe.proofs.Gathered.{every_run}
use Rattle.st_laws_volume.proofs.ReadPages as proved
use Rattle.st_laws_volume.proofs.pages_agree.Goals as goal

pub returns : goal.returns
returns c = proved.pages_agree every_run
