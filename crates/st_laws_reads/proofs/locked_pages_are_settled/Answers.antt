use Rattle.st_laws_reads.proofs.AllClients.Settled.{locked_pages_are_settled}
use Rattle.st_laws_reads.proofs.locked_pages_are_settled.Goals as goal

pub returns : goal.returns
returns c = locked_pages_are_settled
