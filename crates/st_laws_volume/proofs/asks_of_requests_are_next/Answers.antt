use Rattle.st_laws_safe.proofs.Gathered.{every_run}
use Rattle.st_laws_volume.proofs.OpenRequests as proved
use Rattle.st_laws_volume.proofs.asks_of_requests_are_next.Goals as goal

pub returns : goal.returns
returns c = proved.asks_of_requests_are_next every_run
