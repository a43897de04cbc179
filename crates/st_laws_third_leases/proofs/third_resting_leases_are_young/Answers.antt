use Rattle.st_laws_third_leases.proofs.Young.{young_law}
use Rattle.st_laws_third_leases.proofs.third_resting_leases_are_young.Goals as goal

pub returns : goal.returns
returns c = young_law
