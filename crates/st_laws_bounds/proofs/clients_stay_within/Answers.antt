use Rattle.st_laws_bounds.proofs.Counters.Within.{within_law}
use Rattle.st_laws_bounds.proofs.clients_stay_within.Goals as goal

pub returns : goal.returns
returns c = within_law
