use Rattle.st_laws_safe.proofs.Gathered.{every_run}
use Rattle.st_laws_volume.proofs.ChangeLines as proved
use Rattle.st_laws_volume.proofs.change_lines_are_taken.Goals as goal

pub returns : goal.returns
returns c = proved.change_lines_are_taken every_run
