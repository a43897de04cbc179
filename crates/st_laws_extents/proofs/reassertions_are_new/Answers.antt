use Rattle.st_laws_extents.proofs.CutRequests.New.{reassertions_new}
use Rattle.st_laws_extents.proofs.reassertions_are_new.Goals as goal

pub returns : goal.returns
returns c = reassertions_new
