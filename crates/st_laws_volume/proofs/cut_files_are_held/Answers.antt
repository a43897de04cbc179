use Rattle.st_laws_safe.proofs.Gathered.{every_run}
use Rattle.st_laws_volume.proofs.HeldRefusals as proved
use Rattle.st_laws_volume.proofs.cut_files_are_held.Goals as goal

pub returns : goal.returns
returns c = proved.cut_files_are_held every_run
