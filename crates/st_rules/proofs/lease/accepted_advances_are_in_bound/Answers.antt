use Rattle.st_rules.proofs.Drift.{accepted_in_bound}
use Rattle.st_rules.proofs.lease.accepted_advances_are_in_bound.Goals as goal

pub returns : goal.returns
returns c = accepted_in_bound
