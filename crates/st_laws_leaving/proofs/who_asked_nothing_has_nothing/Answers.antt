use Rattle.st_laws_leaving.proofs.StandingRuns.{who_asked_nothing_has_nothing}
use Rattle.st_laws_leaving.proofs.who_asked_nothing_has_nothing.Goals as goal

pub returns : goal.returns
returns c = who_asked_nothing_has_nothing
