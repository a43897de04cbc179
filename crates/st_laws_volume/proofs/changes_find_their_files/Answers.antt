use Rattle.st_laws_safe.proofs.Gathered.{every_run}
use Rattle.st_laws_volume.proofs.ChangeFiles as proved
use Rattle.st_laws_volume.proofs.changes_find_their_files.Goals as goal

pub returns : goal.returns
returns c = proved.changes_find_their_files every_run
