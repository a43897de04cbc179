use Rattle.st_laws_extents.proofs.EveryRun.Law.{held}
use Rattle.st_laws_extents.proofs.disks_hold.Goals as goal

pub returns : goal.returns
returns c = held
