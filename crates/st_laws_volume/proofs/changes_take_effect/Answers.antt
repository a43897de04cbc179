use Rattle.st_laws_safe.proofs.Gathered.{every_run}
use Rattle.st_laws_volume.proofs.ChangeEffects as proved
use Rattle.st_laws_volume.proofs.changes_take_effect.Goals as goal

pub returns : goal.returns
returns c = proved.changes_take_effect every_run
