use Rattle.st_laws_safe.proofs.Gathered.{every_run}
use Rattle.st_laws_volume.proofs.RequestEffects as proved
use Rattle.st_laws_volume.proofs.requests_have_effects.Goals as goal

pub returns : goal.returns
returns c = proved.requests_have_effects every_run
