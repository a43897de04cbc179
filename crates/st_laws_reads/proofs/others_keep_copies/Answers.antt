use Rattle.st_laws_reads.proofs.AllClients.Others.{others_keep_copies}
use Rattle.st_laws_reads.proofs.others_keep_copies.Goals as goal

pub returns : goal.returns
returns c = others_keep_copies
