use Rattle.st_laws_volume.proofs.VolumeLaw as proved
use Rattle.st_laws_volume.proofs.every_run_is_a_run_of_the_volume.Goals as goal

pub returns : goal.returns
returns c = proved.every_run
