use Rattle.st_laws_safe.proofs.Gathered.{every_run}
use Rattle.st_laws_volume.proofs.LeftAnswers as proved
use Rattle.st_laws_volume.proofs.reads_are_taken.Goals as goal

pub returns : goal.returns
returns c = proved.reads_are_taken every_run
