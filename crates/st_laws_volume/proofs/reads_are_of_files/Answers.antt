use Rattle.st_laws_volume.proofs.ReadFiles as proved
use Rattle.st_laws_volume.proofs.reads_are_of_files.Goals as goal

pub returns : goal.returns
returns c = proved.reads_are_of_files
