use Rattle.std.proofs.Common.{arith}
use Rattle.st_rules.specs.Names.{fresh_names}
use Rattle.st_namespace.proofs.NameOrder.{fresh_in_order}
use Rattle.st_namespace.proofs.names.Names.fresh.Goals as goal

pub invariant_of-result : goal.invariant_of-result
unfolding fresh_names
invariant_of-result c = record {
  order = rw c.in_ok-entries.ensures fresh_in_order;
  small = omega arith;
}

pub returns-clause-order : goal.returns-clause-order
returns-clause-order c = (invariant_of-result c).order
