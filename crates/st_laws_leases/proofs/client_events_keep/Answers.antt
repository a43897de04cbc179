use Rattle.st_laws_leases.proofs.Sides.Fold.{events_keep}
use Rattle.st_laws_leases.proofs.client_events_keep.Goals as goal

pub returns : goal.returns
returns c = events_keep
