use Rattle.st_laws_extents.proofs.Known.Told.{replies_tell_extents}
use Rattle.st_laws_extents.proofs.replies_tell_extents.Goals as goal

pub returns : goal.returns
returns c = replies_tell_extents
