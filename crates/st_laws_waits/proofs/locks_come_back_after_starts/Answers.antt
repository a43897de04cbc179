use Rattle.st_laws_waits.proofs.Runs.{after_law}
use Rattle.st_laws_waits.proofs.locks_come_back_after_starts.Goals as goal

pub returns : goal.returns
returns c = after_law
