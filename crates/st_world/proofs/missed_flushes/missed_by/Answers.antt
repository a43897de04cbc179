use Rattle.st_lemmas.proofs.Words
use Words.{◌∙◌}
use Rattle.st_world.proofs.Misses.{server_end, server_none, server_some}
use Rattle.st_world.proofs.missed_flushes.missed_by.Goals as goal

pub returns-in-Some : goal.returns-in-Some
returns-in-Some c =
    server_some c.args.machine.now.world c.args.steps.now c.args.client c.loop-i.i c.len-servers.result c.in-Some.refusal c.loop-i-test.true c.in-Some.ensures
    ∙ c.loop-i.invariant

pub loop-i-preserved : goal.loop-i-preserved
loop-i-preserved c =
    server_none c.args.machine.now.world c.args.steps.now c.args.client c.loop-i.i c.len-servers.result c.loop-i-test.true c.in-None.ensures
    ∙ c.loop-i.invariant

pub returns : goal.returns
returns c = server_end c.args.machine.now.world c.args.steps.now c.args.client c.loop-i.i c.len-servers.result c.loop-i-test.false ∙ c.loop-i.invariant
