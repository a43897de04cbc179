use Rattle.st_laws_extents.proofs.EveryRun.Law.{pages}
use Rattle.st_laws_safe.proofs.Gathered.{every_run}
use Rattle.st_laws_volume.proofs.LostAnswers as proved
use Rattle.st_laws_volume.proofs.losses_are_told_whole.Goals as goal

pub returns : goal.returns
returns c = proved.losses_are_told_whole every_run pages
