use Rattle.st_laws_bounds.proofs.Counters.Law.{locks_law}
use Rattle.st_laws_bounds.proofs.locks_are_few.Goals as goal

pub returns : goal.returns
returns c = locks_law
