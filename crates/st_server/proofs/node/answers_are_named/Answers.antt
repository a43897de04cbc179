use Rattle.st_lemmas.proofs.Words
use Words.serving.{Control}
use Rattle.st_server.proofs.SoundSteps.{answers_named, goes_on, only_memory}
use Rattle.st_server.proofs.node.answers_are_named.Goals as goal

pub returns-clause-runs : goal.returns-clause-runs
returns-clause-runs c = goes_on c.args.node.now c.step.new.self c.step.result c.args.now (Control c.args.message) c.requires.running c.step.ensures.exact

pub returns-clause-named : goal.returns-clause-named
returns-clause-named c = answers_named c.args.node.now.state c.args.now c.args.message c.running-running.ensures.sound c.requires.room c.requires.time c.requires.fits

pub returns-clause-fault : goal.returns-clause-fault
returns-clause-fault c = only_memory c.args.node.now c.step.new.self c.step.result c.args.now (Control c.args.message) c.requires.running c.step.ensures.exact
