use Rattle.st_laws_extents.proofs.CutRequests.Law.{goes}
use Rattle.st_laws_extents.proofs.events_go_on.Goals as goal

pub returns : goal.returns
returns c = goes
