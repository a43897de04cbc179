use Rattle.std.proofs.Common.{arith}
use Rattle.st_rules.specs.ClientState.{answer_to}
use Rattle.st_operations.proofs.Firsts.{answered_more}
use Rattle.st_operations.proofs.operations.answer_rows.Goals as goal

pub loop-i-preserved : goal.loop-i-preserved
loop-i-preserved g c =
    let a = c.loop-i.invariant.grows in
    let b = c.in_ok-answer_at.ensures.grows in
    record {
      told = answered_more (answer_to c.args.answer.now) (g.T.Test.passes c.args.test.now) c.args.rows.now c.loop-i.i _ _ _ c.loop-i.invariant.told
          c.in_ok-answer_at.ensures.told;
      grows = omega (arith, a, b);
    }
