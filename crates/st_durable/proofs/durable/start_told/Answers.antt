use Rattle.st_durable.proofs.ToldChanges.{started, started_own}
use Rattle.st_durable.proofs.durable.start_told.Goals as goal

pub returns-clause-told : goal.returns-clause-told
returns-clause-told c = started c.args.node.now c.start.new.self c.args.now c.in_ok-start.ensures.started c.requires.epochs

pub returns-clause-own : goal.returns-clause-own
returns-clause-own c = started_own c.args.node.now c.start.new.self c.args.now c.in_ok-start.ensures.started c.requires.own
