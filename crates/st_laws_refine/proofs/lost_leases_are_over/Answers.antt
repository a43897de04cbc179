use Rattle.st_laws_refine.proofs.Client.Steps.{lost_law}
use Rattle.st_laws_refine.proofs.lost_leases_are_over.Goals as goal

pub returns : goal.returns
returns c = lost_law
