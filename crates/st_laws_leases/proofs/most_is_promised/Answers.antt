use Rattle.st_laws_leases.proofs.Sides.Kept.{most_promised}
use Rattle.st_laws_leases.proofs.most_is_promised.Goals as goal

pub returns : goal.returns
returns c = most_promised
