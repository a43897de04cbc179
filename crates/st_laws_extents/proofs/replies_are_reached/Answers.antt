use Rattle.st_laws_extents.proofs.CutRequests.New.{replies}
use Rattle.st_laws_extents.proofs.replies_are_reached.Goals as goal

pub returns : goal.returns
returns c = replies
