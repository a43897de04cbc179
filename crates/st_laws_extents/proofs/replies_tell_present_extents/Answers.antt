use Rattle.st_laws_extents.proofs.ExtentReplies.Law.{asked}
use Rattle.st_laws_extents.proofs.replies_tell_present_extents.Goals as goal

pub returns : goal.returns
returns c = asked
