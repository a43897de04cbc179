use Rattle.st_clock.proofs.Laws.{judges}
use Rattle.st_clock.proofs.drift.Drift.check.Goals as goal

pub returns-clause-law : goal.returns-clause-law
returns-clause-law c = judges c.accepted_advances_are_in_bound.ensures c.advances_in_bound_are_accepted.ensures _ _ _ _ _ _ _ c.requires.nodes c.judge.ensures
