use Rattle.st_durable.proofs.ToldChanges.{stays_own, tells_none}
use Rattle.st_durable.proofs.durable.step_unasked.Goals as goal

pub returns-clause-told : goal.returns-clause-told
returns-clause-told c = tells_none c.args.node.now c.step-outputs.new.self c.step-outputs.result c.args.now c.args.input c.requires.own c.requires.asks c.step-outputs.ensures.exact

pub returns-clause-own : goal.returns-clause-own
returns-clause-own c = stays_own c.args.node.now c.step-outputs.new.self c.step-outputs.result c.args.now c.args.input c.requires.own c.step-outputs.ensures.exact
