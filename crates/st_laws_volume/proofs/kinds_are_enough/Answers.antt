use Rattle.st_laws_volume.proofs.StepKinds as proved
use Rattle.st_laws_volume.proofs.kinds_are_enough.Goals as goal

pub returns : goal.returns
returns c = proved.kinds_enough
