use Rattle.st_laws_bounds.proofs.Counters.Law.{clients_law}
use Rattle.st_laws_bounds.proofs.clients_count_few.Goals as goal

pub returns : goal.returns
returns c = clients_law
