use Rattle.st_laws_safe.proofs.Gathered.{every_run}
use Rattle.st_laws_volume.proofs.UnresultedAnswers as proved
use Rattle.st_laws_volume.proofs.results_are_answered.Goals as goal

pub returns : goal.returns
returns c = proved.results_are_answered every_run
