use Rattle.std.proofs.Common.{refl, sym, subst}
use Rattle.std.specs.List.{IsDistinct}
use Rattle.st_tables.specs.Orders.{IsOrder}
use Rattle.st_tables.proofs.arrival_order.Ordered.new.Goals as goal

pub invariant_of-result : goal.invariant_of-result
unfolding IsDistinct
invariant_of-result g c = subst (λ l. IsOrder c.new.result l) (sym c.new-2.ensures.items) (record { filled = refl; distinct = tt })
