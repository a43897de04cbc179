use Rattle.st_laws_reads.proofs.FrozenLives.AllRuns.{runs_alone}
use Rattle.st_laws_reads.proofs.frozen_are_alone.Goals as goal

pub returns : goal.returns
returns c = runs_alone
