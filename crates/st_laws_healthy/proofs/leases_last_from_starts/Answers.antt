use Rattle.st_laws_healthy.proofs.Starting.{leases_from_starts, lost_from_starts, quiesced_from_starts}
use Rattle.st_laws_healthy.proofs.leases_last_from_starts.Goals as goal

pub returns-clause-last : goal.returns-clause-last
returns-clause-last c = leases_from_starts

pub returns-clause-lost : goal.returns-clause-lost
returns-clause-lost c = lost_from_starts

pub returns-clause-quiesced : goal.returns-clause-quiesced
returns-clause-quiesced c = quiesced_from_starts
