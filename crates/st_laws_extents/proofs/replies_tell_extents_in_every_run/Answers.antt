use Rattle.st_laws_extents.proofs.LockedRequests.Law.{replies}
use Rattle.st_laws_extents.proofs.replies_tell_extents_in_every_run.Goals as goal

pub returns : goal.returns
returns c = replies
