use Rattle.st_lemmas.proofs.Words
use Words.{◌∙◌, sym}
use Rattle.st_flush.proofs.Picked.{find_here, find_past}
use Rattle.st_flush.proofs.picks.find_command.Goals as goal

pub loop-i-preserved : goal.loop-i-preserved
loop-i-preserved g c =
    find_past (g.T.Test.passes c.args.test.now) c.args.commands.now c.loop-i.i c.in_ok-command.command (sym (c.in_ok-command.ensures ∙ c.get.ensures.found)) (sym c.test.ensures ∙ c.if-test.false)
    ∙ c.loop-i.invariant

pub returns-then-test : goal.returns-then-test
returns-then-test g c =
    sym (find_here (g.T.Test.passes c.args.test.now) c.args.commands.now c.loop-i.i c.in_ok-command.command (sym (c.in_ok-command.ensures ∙ c.get.ensures.found)) (sym c.test.ensures ∙ c.if-test.true))
    ∙ c.loop-i.invariant
