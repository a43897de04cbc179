use Rattle.st_laws_volume.proofs.ReadFiles as proved
use Rattle.st_laws_volume.proofs.known_files_exist.Goals as goal

pub returns : goal.returns
returns c = proved.known_files_exist
