use Rattle.st_laws_extents.proofs.EveryRun.Law.{pages}
use Rattle.st_laws_safe.proofs.Gathered.{every_run}
use Rattle.st_laws_volume.proofs.OtherAnswers as proved
use Rattle.st_laws_volume.proofs.other_answers_are_enough.Goals as goal

pub returns : goal.returns
returns c = proved.other_answers_are_enough every_run pages
