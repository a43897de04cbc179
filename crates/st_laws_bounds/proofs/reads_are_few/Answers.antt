use Rattle.st_laws_bounds.proofs.Counters.Law.{reads_law}
use Rattle.st_laws_bounds.proofs.reads_are_few.Goals as goal

pub returns : goal.returns
returns c = reads_law
