use Rattle.st_laws_reads.proofs.Copies.Copies.{operations_keep_copies}
use Rattle.st_laws_reads.proofs.operations_keep_copies.Goals as goal

pub returns : goal.returns
returns c = operations_keep_copies
