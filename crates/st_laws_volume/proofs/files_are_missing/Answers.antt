use Rattle.st_laws_safe.proofs.Gathered.{every_run}
use Rattle.st_laws_volume.proofs.NoFileAnswers as proved
use Rattle.st_laws_volume.proofs.files_are_missing.Goals as goal

pub returns : goal.returns
returns c = proved.files_are_missing every_run
