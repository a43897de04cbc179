use Rattle.st_laws_reads.proofs.FrozenLives.Law.{first, events_keep, alone}
use Rattle.st_laws_reads.proofs.frozen_lives_stand_alone.Goals as goal

pub returns-clause-begin : goal.returns-clause-begin
returns-clause-begin c = first

pub returns-clause-steps : goal.returns-clause-steps
returns-clause-steps c = events_keep

pub returns-clause-alone : goal.returns-clause-alone
returns-clause-alone c = alone
