use Rattle.st_laws_safe.proofs.Gathered.{every_run}
use Rattle.st_laws_volume.proofs.UnservedAsks as proved
use Rattle.st_laws_volume.proofs.requests_find_none.Goals as goal

pub returns : goal.returns
returns c = proved.requests_find_none every_run
