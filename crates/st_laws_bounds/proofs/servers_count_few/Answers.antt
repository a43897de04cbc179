use Rattle.st_laws_bounds.proofs.Counters.Law.{servers_law}
use Rattle.st_laws_bounds.proofs.servers_count_few.Goals as goal

pub returns : goal.returns
returns c = servers_law
