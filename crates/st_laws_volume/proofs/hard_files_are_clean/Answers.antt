use Rattle.st_laws_volume.proofs.HardFiles as proved
use Rattle.st_laws_volume.proofs.hard_files_are_clean.Goals as goal

pub returns : goal.returns
returns c = proved.hard_files_are_clean
