use Rattle.st_laws_third.proofs.FirstRuns.{first_runs_stay}
use Rattle.st_laws_third.proofs.law.first_runs_stay.Goals as goal

pub returns : goal.returns
returns c = first_runs_stay
