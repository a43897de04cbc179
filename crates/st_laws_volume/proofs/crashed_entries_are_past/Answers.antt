use Rattle.st_laws_safe.proofs.Gathered.{every_run}
use Rattle.st_laws_volume.proofs.CrashedLives as proved
use Rattle.st_laws_volume.proofs.crashed_entries_are_past.Goals as goal

pub returns : goal.returns
returns c = proved.crashed_entries_are_past every_run
