use Rattle.st_laws_third_leases.proofs.Starting.{last_from_starts, lost_from_starts}
use Rattle.st_laws_third_leases.proofs.third_leases_last_from_starts.Goals as goal

pub returns-clause-last : goal.returns-clause-last
returns-clause-last c = last_from_starts

pub returns-clause-lost : goal.returns-clause-lost
returns-clause-lost c = lost_from_starts
