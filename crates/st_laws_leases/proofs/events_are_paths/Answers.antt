use Rattle.st_laws_leases.proofs.Sides.Paths.{follows}
use Rattle.st_laws_leases.proofs.events_are_paths.Goals as goal

pub returns : goal.returns
returns c = follows
