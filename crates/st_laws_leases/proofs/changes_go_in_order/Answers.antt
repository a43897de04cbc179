use Rattle.st_laws_leases.proofs.Order.Grants.{order_law}
use Rattle.st_laws_leases.proofs.changes_go_in_order.Goals as goal

pub returns : goal.returns
returns c = order_law
