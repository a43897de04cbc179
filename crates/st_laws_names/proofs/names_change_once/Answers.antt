use Rattle.st_laws_names.proofs.OwnersLaw.{names_change_once_in_every_run}
use Rattle.st_laws_names.proofs.names_change_once.Goals as goal

pub returns : goal.returns
returns c = names_change_once_in_every_run
