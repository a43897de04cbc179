use Rattle.st_laws_waits.proofs.Runs.{again_law}
use Rattle.st_laws_waits.proofs.demands_are_repeated.Goals as goal

pub returns : goal.returns
returns c = again_law
