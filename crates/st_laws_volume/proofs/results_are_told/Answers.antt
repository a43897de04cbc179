use Rattle.st_laws_volume.proofs.ToldResults as proved
use Rattle.st_laws_volume.proofs.results_are_told.Goals as goal

pub returns : goal.returns
returns c = proved.results_are_told
