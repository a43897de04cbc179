use Rattle.st_laws_waits.proofs.Runs.{back_law}
use Rattle.st_laws_waits.proofs.locks_come_back.Goals as goal

pub returns : goal.returns
returns c = back_law
