use Rattle.st_laws_reads.proofs.AllClients.Settled.{own_law}
use Rattle.st_laws_reads.proofs.locked_pages_are_own.Goals as goal

pub returns : goal.returns
returns c = own_law
