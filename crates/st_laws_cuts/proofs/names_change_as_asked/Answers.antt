use Rattle.st_laws_cuts.proofs.Changes.{names_change_as_asked}
use Rattle.st_laws_cuts.proofs.names_change_as_asked.Goals as goal

pub returns : goal.returns
returns c = names_change_as_asked
