use Rattle.st_laws_volume.proofs.MappedFiles as proved
use Rattle.st_laws_volume.proofs.mapped_files_exist.Goals as goal

pub returns : goal.returns
returns c = proved.mapped_files_exist
