use Rattle.st_laws_safe.proofs.Gathered.{every_run}
use Rattle.st_laws_volume.proofs.NotHolderAnswers as proved
use Rattle.st_laws_volume.proofs.locks_were_missing.Goals as goal

pub returns : goal.returns
returns c = proved.locks_were_missing every_run
