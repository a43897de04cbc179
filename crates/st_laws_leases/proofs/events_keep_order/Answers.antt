use Rattle.st_laws_leases.proofs.Order.Everywhere.{stays_ordered}
use Rattle.st_laws_leases.proofs.events_keep_order.Goals as goal

pub returns : goal.returns
returns c = stays_ordered
