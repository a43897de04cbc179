use Rattle.st_laws_leases.proofs.Sides.Runs.{runs_stand}
use Rattle.st_laws_leases.proofs.all_stand_in_every_run.Goals as goal

pub returns : goal.returns
returns c = runs_stand
