use Rattle.std.proofs.Common.{refl, sym, subst}
use Rattle.std.specs.List.{IsDistinct}
use Rattle.st_tables.specs.Orders.{IsOrder}
use Rattle.st_tables.proofs.arrival_order.Ordered.clear.Goals as goal

pub invariant_of-self : goal.invariant_of-self
unfolding IsDistinct
invariant_of-self g c = subst (λ l. IsOrder c.clear.new.self l) (sym c.clear-2.ensures.items) (record { filled = refl; distinct = tt })
