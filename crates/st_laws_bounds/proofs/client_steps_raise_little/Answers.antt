use Rattle.st_laws_bounds.proofs.Counters.Raising.{fresh_within, steps_raise}
use Rattle.st_laws_bounds.proofs.client_steps_raise_little.Goals as goal

pub returns-clause-steps : goal.returns-clause-steps
returns-clause-steps c = steps_raise

pub returns-clause-fresh : goal.returns-clause-fresh
returns-clause-fresh c = fresh_within
