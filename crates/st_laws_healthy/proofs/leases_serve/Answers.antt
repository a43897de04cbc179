use Rattle.st_laws_healthy.proofs.Keeping.{lost_law, quiesced_law}
use Rattle.st_laws_healthy.proofs.leases_serve.Goals as goal

pub returns-clause-lost : goal.returns-clause-lost
returns-clause-lost c = lost_law

pub returns-clause-quiesced : goal.returns-clause-quiesced
returns-clause-quiesced c = quiesced_law
