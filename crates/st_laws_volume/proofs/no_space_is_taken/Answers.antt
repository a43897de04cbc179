use Rattle.st_laws_extents.proofs.EveryRun.Law.{pages}
use Rattle.st_laws_safe.proofs.Gathered.{every_run}
use Rattle.st_laws_volume.proofs.LeftAnswers as proved
use Rattle.st_laws_volume.proofs.no_space_is_taken.Goals as goal

pub returns : goal.returns
returns c = proved.no_space_is_taken every_run pages
