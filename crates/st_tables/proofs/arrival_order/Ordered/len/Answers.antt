use Rattle.std.proofs.Common.{◌≡◌, subst, length, arith}
use Rattle.st_tables.proofs.InOrder.{same_length}
use Rattle.st_tables.proofs.arrival_order.Ordered.len.Goals as goal

pub returns-clause-len : goal.returns-clause-len
returns-clause-len g c =
    subst (λ l. c.len.result ≡ length l) c.self.view_is
    (omega (arith, c.len.ensures, c.self.inside.order.ok.0, same_length c.self.inside.slab c.self.inside.order.items c.self.invariant.filled))
