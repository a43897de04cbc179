use Rattle.st_laws_reads.proofs.AllClients.Takings.{takings_keep_copies}
use Rattle.st_laws_reads.proofs.takings_keep_copies.Goals as goal

pub returns : goal.returns
returns c = takings_keep_copies
