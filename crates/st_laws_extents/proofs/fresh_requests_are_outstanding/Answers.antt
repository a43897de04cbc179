use Rattle.st_laws_extents.proofs.CutRequests.Law.{fresh}
use Rattle.st_laws_extents.proofs.fresh_requests_are_outstanding.Goals as goal

pub returns : goal.returns
returns c = fresh
