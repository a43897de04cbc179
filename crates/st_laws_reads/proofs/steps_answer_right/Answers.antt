use Rattle.st_laws_reads.proofs.Copies.Seen.{steps_answer_right}
use Rattle.st_laws_reads.proofs.steps_answer_right.Goals as goal

pub returns : goal.returns
returns c = steps_answer_right
