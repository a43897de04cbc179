use Rattle.st_laws_safe.proofs.Gathered.{every_run}
use Rattle.st_laws_volume.proofs.LateFiles as proved
use Rattle.st_laws_volume.proofs.late_files_are_missed.Goals as goal

pub returns : goal.returns
returns c = proved.late_files_are_missed every_run
