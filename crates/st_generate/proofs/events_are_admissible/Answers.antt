use Rattle.st_generate.proofs.Runs.{each_is_admissible, each_is_in_range}
use Rattle.st_generate.proofs.events_are_admissible.Goals as goal

pub returns-clause-admissible : goal.returns-clause-admissible
returns-clause-admissible c = each_is_admissible

pub returns-clause-range : goal.returns-clause-range
returns-clause-range c = each_is_in_range
