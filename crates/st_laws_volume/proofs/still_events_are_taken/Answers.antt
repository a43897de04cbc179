use Rattle.st_laws_safe.proofs.Gathered.{every_run}
use Rattle.st_laws_volume.proofs.Fates as proved
use Rattle.st_laws_volume.proofs.still_events_are_taken.Goals as goal

pub returns : goal.returns
returns c = proved.still_events_are_taken every_run
