use Rattle.st_laws_safe.proofs.Gathered.{every_run}
use Rattle.st_laws_volume.proofs.AnswersTold as proved
use Rattle.st_laws_volume.proofs.answers_follow_lines.Goals as goal

pub returns : goal.returns
returns c = proved.answers_follow_lines every_run
