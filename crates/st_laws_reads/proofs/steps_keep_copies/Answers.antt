use Rattle.st_laws_reads.proofs.Copies.Step.{steps_keep_copies}
use Rattle.st_laws_reads.proofs.steps_keep_copies.Goals as goal

pub returns : goal.returns
returns c = steps_keep_copies
