use Rattle.st_lemmas.proofs.Words
use Words.{arith}
use Rattle.st_shared.proofs.OneRow.{nobody_holds}
use Rattle.st_shared.proofs.rows.holder.Goals as goal

pub returns : goal.returns
returns c = nobody_holds c.args.locks.now.rows c.requires.rows (λ k low high. c.loop-number.invariant k low (omega (arith, c.loop-number-test.false)))
