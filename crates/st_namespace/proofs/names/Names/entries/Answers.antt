use Rattle.std.proofs.Common.{arith}
use Rattle.st_namespace.proofs.names.Names.entries.Goals as goal

pub overflow_cast-result : goal.overflow_cast-result
overflow_cast-result c = omega (arith, c.len.ensures, c.self.invariant.order.few, c.self.invariant.small)
