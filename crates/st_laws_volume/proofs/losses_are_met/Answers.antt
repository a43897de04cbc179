use Rattle.st_laws_extents.proofs.EveryRun.Law.{pages}
use Rattle.st_laws_safe.proofs.Gathered.{every_run}
use Rattle.st_laws_volume.proofs.LossesMet as proved
use Rattle.st_laws_volume.proofs.losses_are_met.Goals as goal

pub returns : goal.returns
returns c = proved.losses_are_met every_run pages
