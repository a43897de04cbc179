use Rattle.st_laws_extents.proofs.EveryRun.Law.{pages}
use Rattle.st_laws_safe.proofs.Gathered.{every_run}
use Rattle.st_laws_volume.proofs.LateAsks as proved
use Rattle.st_laws_volume.proofs.full_servers_are_noticed.Goals as goal

pub returns : goal.returns
returns c = proved.full_servers_are_noticed every_run pages
