use Rattle.std.proofs.Common.{arith}
use Rattle.st_namespace.proofs.names.Names.check_add.Goals as goal

pub overflow_add-entries : goal.overflow_add-entries
overflow_add-entries c = omega (arith, (rw (← c.self.view_is) at c.entries.ensures), c.self.invariant.order.few, c.self.invariant.small)
