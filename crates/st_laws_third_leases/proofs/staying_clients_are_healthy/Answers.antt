use Rattle.st_laws_third_leases.proofs.Joining.{joining_law}
use Rattle.st_laws_third_leases.proofs.staying_clients_are_healthy.Goals as goal

pub returns : goal.returns
returns c = joining_law
