use Rattle.st_laws_healthy.proofs.NotSuspected.{not_suspected_law}
use Rattle.st_laws_healthy.proofs.healthy_clients_are_not_suspected.Goals as goal

pub returns : goal.returns
returns c = not_suspected_law
