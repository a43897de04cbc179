use Rattle.st_laws_extents.proofs.LockedRequests.Law.{is_asked}
use Rattle.st_laws_extents.proofs.requests_go_on.Goals as goal

pub returns : goal.returns
returns c = is_asked
