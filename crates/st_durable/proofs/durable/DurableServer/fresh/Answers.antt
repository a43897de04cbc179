use Rattle.st_durable.proofs.ToldChanges.{first, fresh_own}
use Rattle.st_durable.proofs.durable.DurableServer.fresh.Goals as goal

pub invariant_of-result : goal.invariant_of-result
invariant_of-result c = fresh_own c.args.id c.args.config.now c.args.servers c.args.disks c.args.blocks c.in_ok-fresh.field-0 c.in_ok-fresh.ensures

pub returns-clause-told : goal.returns-clause-told
returns-clause-told c = first c.args.id c.args.config.now c.args.servers c.args.disks c.args.blocks c.in_ok-fresh.field-0 c.in_ok-fresh.ensures
