use Rattle.st_laws_extents.proofs.ExtentReplies.Received.{maps_at}
use Rattle.st_laws_extents.proofs.unmapped_pages_are_told.Goals as goal

pub returns : goal.returns
returns c = maps_at
