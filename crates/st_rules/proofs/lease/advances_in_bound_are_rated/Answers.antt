use Rattle.st_rules.proofs.Rates.{in_bound_rated}
use Rattle.st_rules.proofs.lease.advances_in_bound_are_rated.Goals as goal

pub returns : goal.returns
returns c = in_bound_rated
