use Rattle.st_laws_suspicions.proofs.Open.{open_law}
use Rattle.st_laws_suspicions.proofs.open_clients_are_heard.Goals as goal

pub returns : goal.returns
returns c = open_law
