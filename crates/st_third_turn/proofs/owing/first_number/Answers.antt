use Rattle.st_lemmas.proofs.Words
use Words.{◌∙◌, sym, arith}
use Rattle.st_third_turn.proofs.Found.{found_here, found_none, found_past}
use Rattle.st_third_turn.proofs.owing.first_number.Goals as goal

pub returns-in-Some : goal.returns-in-Some
returns-in-Some g c =
    sym (found_here (g.T.Test.passes c.args.test.now) c.args.operations.now c.loop-i.i c.in-Some.op (sym c.number_at.ensures ∙ c.in-Some.is)) ∙ c.loop-i.invariant

pub loop-i-preserved : goal.loop-i-preserved
loop-i-preserved g c =
    sym (found_past (g.T.Test.passes c.args.test.now) c.args.operations.now c.loop-i.i (sym c.number_at.ensures ∙ c.in-None.is)) ∙ c.loop-i.invariant

pub returns : goal.returns
returns g c =
    sym (found_none (g.T.Test.passes c.args.test.now) c.args.operations.now c.loop-i.i (omega (arith, c.loop-i-test.false, c.len-i-end.ensures.len))) ∙ c.loop-i.invariant
