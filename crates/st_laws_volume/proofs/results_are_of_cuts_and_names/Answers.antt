use Rattle.st_laws_safe.proofs.Gathered.{every_run}
use Rattle.st_laws_volume.proofs.KeptResults as proved
use Rattle.st_laws_volume.proofs.results_are_of_cuts_and_names.Goals as goal

pub returns : goal.returns
returns c = proved.results_are_of_cuts_and_names every_run
