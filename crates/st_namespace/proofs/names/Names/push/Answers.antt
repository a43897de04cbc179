use Rattle.st_rules.specs.Names.{added}
use Rattle.st_namespace.proofs.NameOrder.{added_in_order}
use Rattle.st_namespace.proofs.names.Names.push.Goals as goal

pub invariant_of-self-2 : goal.invariant_of-self-2
unfolding added
invariant_of-self-2 c = record {
  order = rw c.in-Ok.ensures.ok (added_in_order (record { entries = c.self.inside.entries; next = c.self.inside.next; limit = c.self.inside.limit }) c.args.dir c.args.name c.args.directory c.self.invariant.order (rw (← c.self.view_is) at c.requires.free) (rw (← c.self.view_is) at c.requires.room));
  small = c.self.invariant.small;
}

pub returns-clause-order : goal.returns-clause-order
returns-clause-order c = (invariant_of-self-2 c).order
