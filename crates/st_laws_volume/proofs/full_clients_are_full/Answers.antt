use Rattle.st_laws_extents.proofs.EveryRun.Law.{pages}
use Rattle.st_laws_safe.proofs.Gathered.{every_run}
use Rattle.st_laws_volume.proofs.DirtyEntries as proved
use Rattle.st_laws_volume.proofs.full_clients_are_full.Goals as goal

pub returns : goal.returns
returns c = proved.full_clients_are_full every_run pages
