use Rattle.st_laws_healthy.proofs.Keeping.{leases_law}
use Rattle.st_laws_healthy.proofs.leases_last.Goals as goal

pub returns : goal.returns
returns c = leases_law
