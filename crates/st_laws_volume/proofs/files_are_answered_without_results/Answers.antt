use Rattle.st_laws_safe.proofs.Gathered.{every_run}
use Rattle.st_laws_volume.proofs.AnswerResults as proved
use Rattle.st_laws_volume.proofs.files_are_answered_without_results.Goals as goal

pub returns : goal.returns
returns c = proved.files_are_answered_without_results every_run
