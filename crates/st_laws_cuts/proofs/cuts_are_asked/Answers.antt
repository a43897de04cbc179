use Rattle.st_laws_cuts.proofs.Law.{cuts_are_asked}
use Rattle.st_laws_cuts.proofs.cuts_are_asked.Goals as goal

pub returns : goal.returns
returns c = cuts_are_asked
