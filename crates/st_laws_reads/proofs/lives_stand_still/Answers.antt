use Rattle.st_laws_reads.proofs.FrozenLives.Walks.{paths_keep, begins, stand_alone}
use Rattle.st_laws_reads.proofs.lives_stand_still.Goals as goal

pub returns-clause-paths : goal.returns-clause-paths
returns-clause-paths c = paths_keep

pub returns-clause-crashes : goal.returns-clause-crashes
returns-clause-crashes c = begins

pub returns-clause-alone : goal.returns-clause-alone
returns-clause-alone c = stand_alone
