use Rattle.st_laws_extents.proofs.EveryRun.Law.{pages}
use Rattle.st_laws_safe.proofs.Gathered.{every_run}
use Rattle.st_laws_volume.proofs.FullRoom as proved
use Rattle.st_laws_volume.proofs.full_servers_have_no_room.Goals as goal

pub returns : goal.returns
returns c = proved.full_servers_have_no_room every_run pages
