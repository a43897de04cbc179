use Rattle.st_laws_safe.proofs.Gathered.{every_run}
use Rattle.st_laws_volume.proofs.UnheldAnswers as proved
use Rattle.st_laws_volume.proofs.not_holder_answers_are_taken.Goals as goal

pub returns : goal.returns
returns c = proved.not_holder_answers_are_taken every_run
