use Rattle.st_lemmas.proofs.Words
use Words.{inl}
use Rattle.st_durable.proofs.ToldChanges.{crashed_own, crashed_stable}
use Rattle.st_durable.proofs.durable.step_starved.Goals as goal

pub returns-clause-exact : goal.returns-clause-exact
returns-clause-exact c = inl c.crash.ensures

pub returns-clause-told : goal.returns-clause-told
returns-clause-told c = crashed_stable c.args.node.now c.crash.new.self c.crash.ensures

pub returns-clause-own : goal.returns-clause-own
returns-clause-own c = crashed_own c.args.node.now c.crash.new.self c.crash.ensures c.requires.own
