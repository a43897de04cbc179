use Rattle.st_laws_suspicions.proofs.Staying.{staying_law}
use Rattle.st_laws_suspicions.proofs.staying_clients_are_not_suspected.Goals as goal

pub returns : goal.returns
returns c = staying_law
