use Rattle.st_laws_reads.proofs.AllClients.Alone.{pending_pages_stand_alone}
use Rattle.st_laws_reads.proofs.pending_pages_stand_alone.Goals as goal

pub returns : goal.returns
returns c = pending_pages_stand_alone
