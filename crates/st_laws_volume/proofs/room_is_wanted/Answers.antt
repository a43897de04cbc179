use Rattle.st_laws_safe.proofs.Gathered.{every_run}
use Rattle.st_laws_volume.proofs.RoomWanted as proved
use Rattle.st_laws_volume.proofs.room_is_wanted.Goals as goal

pub returns : goal.returns
returns c = proved.room_is_wanted every_run
