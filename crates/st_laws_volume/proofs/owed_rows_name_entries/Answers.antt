use Rattle.st_laws_extents.proofs.EveryRun.Law.{pages}
use Rattle.st_laws_safe.proofs.Gathered.{every_run}
use Rattle.st_laws_volume.proofs.OwedHolds as proved
use Rattle.st_laws_volume.proofs.owed_rows_name_entries.Goals as goal

pub returns : goal.returns
returns c = proved.owed_rows_name_entries every_run pages
