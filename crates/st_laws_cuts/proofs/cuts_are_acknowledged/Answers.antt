use Rattle.st_laws_cuts.proofs.Acknowledged.{cuts_are_acknowledged}
use Rattle.st_laws_cuts.proofs.cuts_are_acknowledged.Goals as goal

pub returns : goal.returns
returns c = cuts_are_acknowledged
