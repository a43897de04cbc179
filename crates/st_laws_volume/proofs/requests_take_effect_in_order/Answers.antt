use Rattle.st_laws_safe.proofs.Gathered.{every_run}
use Rattle.st_laws_volume.proofs.ServedEffects as proved
use Rattle.st_laws_volume.proofs.requests_take_effect_in_order.Goals as goal

pub returns : goal.returns
returns c = proved.requests_take_effect_in_order every_run
