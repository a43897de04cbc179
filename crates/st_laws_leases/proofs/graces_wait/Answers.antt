use Rattle.st_laws_leases.proofs.Sides.Runs.{graces_wait_out}
use Rattle.st_laws_leases.proofs.graces_wait.Goals as goal

pub returns : goal.returns
returns c = graces_wait_out
