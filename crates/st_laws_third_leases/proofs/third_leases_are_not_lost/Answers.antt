use Rattle.st_laws_third_leases.proofs.Lasting.{losing_law}
use Rattle.st_laws_third_leases.proofs.third_leases_are_not_lost.Goals as goal

pub returns : goal.returns
returns c = losing_law
