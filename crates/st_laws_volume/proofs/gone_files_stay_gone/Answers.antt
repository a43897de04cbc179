use Rattle.st_laws_volume.proofs.GoneFiles as proved
use Rattle.st_laws_volume.proofs.gone_files_stay_gone.Goals as goal

pub returns : goal.returns
returns c = proved.gone_files_stay_gone
