use Rattle.st_laws_extents.proofs.EveryRun.Law.{pages}
use Rattle.st_laws_safe.proofs.Gathered.{every_run}
use Rattle.st_laws_volume.proofs.DirtyFullAnswers as proved
use Rattle.st_laws_volume.proofs.dirty_full_answers_are_taken.Goals as goal

pub returns : goal.returns
returns c = proved.dirty_full_answers_are_taken every_run pages
