use Rattle.st_laws_extents.proofs.EveryRun.Law.{pages}
use Rattle.st_laws_safe.proofs.Gathered.{every_run}
use Rattle.st_laws_volume.proofs.FailureMarks as proved
use Rattle.st_laws_volume.proofs.failed_writes_are_remembered.Goals as goal

pub returns : goal.returns
returns c = proved.failed_writes_are_remembered every_run pages
