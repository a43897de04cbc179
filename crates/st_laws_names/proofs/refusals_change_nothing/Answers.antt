use Rattle.st_laws_names.proofs.Refusals.{refusals_change_nothing}
use Rattle.st_laws_names.proofs.refusals_change_nothing.Goals as goal

pub returns : goal.returns
returns c = refusals_change_nothing
