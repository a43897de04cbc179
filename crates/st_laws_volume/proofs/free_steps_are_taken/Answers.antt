use Rattle.st_laws_safe.proofs.Gathered.{every_run}
use Rattle.st_laws_volume.proofs.StepKinds as proved
use Rattle.st_laws_volume.proofs.free_steps_are_taken.Goals as goal

pub returns : goal.returns
returns c = proved.free_steps_are_taken every_run
