use Rattle.st_laws_safe.proofs.Gathered.{every_run}
use Rattle.st_laws_volume.proofs.ReadAnswers as proved
use Rattle.st_laws_volume.proofs.reads_give_the_pages.Goals as goal

pub returns : goal.returns
returns c = proved.reads_give_the_pages every_run
