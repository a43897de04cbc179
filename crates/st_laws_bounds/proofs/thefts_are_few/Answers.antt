use Rattle.st_laws_bounds.proofs.Counters.Law.{thefts_law}
use Rattle.st_laws_bounds.proofs.thefts_are_few.Goals as goal

pub returns : goal.returns
returns c = thefts_law
