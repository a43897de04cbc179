use Rattle.st_laws_extents.proofs.CutRequests.Law.{cuts_are_asked}
use Rattle.st_laws_extents.proofs.cuts_are_asked.Goals as goal

pub returns : goal.returns
returns c = cuts_are_asked
