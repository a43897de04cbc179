use Rattle.st_laws_refine.proofs.Client.Hard.{runs_keep_hard}
use Rattle.st_laws_refine.proofs.hard_stays_hard.Goals as goal

pub returns : goal.returns
returns c = runs_keep_hard
