use Rattle.st_laws_safe.proofs.Gathered.{every_run}
use Rattle.st_laws_volume.proofs.EntriesTold as proved
use Rattle.st_laws_volume.proofs.entries_are_told.Goals as goal

pub returns : goal.returns
returns c = proved.entries_are_told every_run
