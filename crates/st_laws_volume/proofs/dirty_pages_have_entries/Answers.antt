use Rattle.st_laws_extents.proofs.EveryRun.Law.{pages}
use Rattle.st_laws_safe.proofs.Gathered.{every_run}
use Rattle.st_laws_volume.proofs.DirtyEntries as proved
use Rattle.st_laws_volume.proofs.dirty_pages_have_entries.Goals as goal

pub returns : goal.returns
returns c = proved.dirty_pages_have_entries every_run pages
