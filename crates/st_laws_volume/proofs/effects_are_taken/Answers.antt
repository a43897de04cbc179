use Rattle.st_laws_safe.proofs.Gathered.{every_run}
use Rattle.st_laws_volume.proofs.EffectsTaken as proved
use Rattle.st_laws_volume.proofs.effects_are_taken.Goals as goal

pub returns : goal.returns
returns c = proved.effects_are_taken every_run
