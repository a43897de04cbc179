use Rattle.st_lemmas.proofs.Words
use Words.{◌∙◌}
use Rattle.st_world.proofs.Misses.{client_end, client_none, client_some}
use Rattle.st_world.proofs.missed_flushes.flush_missed.Goals as goal

pub returns-in-Some : goal.returns-in-Some
returns-in-Some c =
    client_some c.args.machine.now.world c.args.steps.now c.loop-i.i c.len-clients.result c.in-Some.refusal c.loop-i-test.true c.in-Some.ensures
    ∙ c.loop-i.invariant

pub loop-i-preserved : goal.loop-i-preserved
loop-i-preserved c =
    client_none c.args.machine.now.world c.args.steps.now c.loop-i.i c.len-clients.result c.loop-i-test.true c.in-None.ensures
    ∙ c.loop-i.invariant

pub returns : goal.returns
returns c = client_end c.args.machine.now.world c.args.steps.now c.loop-i.i c.len-clients.result c.loop-i-test.false ∙ c.loop-i.invariant
