use Rattle.st_laws_safe.proofs.Gathered.{every_run}
use Rattle.st_laws_volume.proofs.FateCrashes as proved
use Rattle.st_laws_volume.proofs.crashes_are_marked.Goals as goal

pub returns : goal.returns
returns c = proved.crashes_are_marked every_run
