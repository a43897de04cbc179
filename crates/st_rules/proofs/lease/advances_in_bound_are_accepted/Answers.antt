use Rattle.st_rules.proofs.Exact.{in_bound_accepted}
use Rattle.st_rules.proofs.lease.advances_in_bound_are_accepted.Goals as goal

pub returns : goal.returns
returns c = in_bound_accepted
