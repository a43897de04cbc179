use Rattle.st_laws_safe.proofs.Gathered.{every_run}
use Rattle.st_laws_volume.proofs.FullAnswers as proved
use Rattle.st_laws_volume.proofs.opsfull_answers_are_taken.Goals as goal

pub returns : goal.returns
returns c = proved.opsfull_answers_are_taken every_run
