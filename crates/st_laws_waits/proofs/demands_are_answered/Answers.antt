use Rattle.st_laws_waits.proofs.Runs.{answered_law}
use Rattle.st_laws_waits.proofs.demands_are_answered.Goals as goal

pub returns : goal.returns
returns c = answered_law
