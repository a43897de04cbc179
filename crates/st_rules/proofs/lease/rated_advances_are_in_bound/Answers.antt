use Rattle.st_rules.proofs.Rates.{rated_in_bound}
use Rattle.st_rules.proofs.lease.rated_advances_are_in_bound.Goals as goal

pub returns : goal.returns
returns c = rated_in_bound
