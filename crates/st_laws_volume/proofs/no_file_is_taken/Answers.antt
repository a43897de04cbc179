use Rattle.st_laws_safe.proofs.Gathered.{every_run}
use Rattle.st_laws_volume.proofs.LeftAnswers as proved
use Rattle.st_laws_volume.proofs.no_file_is_taken.Goals as goal

pub returns : goal.returns
returns c = proved.no_file_is_taken every_run
