use Rattle.st_laws_leases.proofs.Sides.Runs.{pages_stand_alone}
use Rattle.st_laws_leases.proofs.dirty_pages_stand_alone.Goals as goal

pub returns : goal.returns
returns c = pages_stand_alone
