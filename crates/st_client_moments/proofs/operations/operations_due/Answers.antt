use Rattle.std.proofs.Common.{◌∙◌, ap, arith, length}
use Rattle.std.specs.List.{flat_map}
use Rattle.st_client_due.specs.ClientDue.{operation_during}
use Rattle.st_client_moments.specs.FirstMoments.{first_readable}
use Rattle.st_client_moments.proofs.SpanMoments.{first_placed, take_whole}
use Rattle.st_client_moments.proofs.operations.operations_due.Goals as goal

pub loop-i-preserved : goal.loop-i-preserved
loop-i-preserved c =
    let t = c.args.t.now in
    c.sooner-first.ensures ∙ first_placed (operation_during t.operations t) c.args.from t.operations c.loop-i.i c.loop-i.first c.due_at.result c.loop-i.invariant c.due_at.ensures

pub returns : goal.returns
returns c =
    let t = c.args.t.now in
    let same = ap length c.operations.ensures in
    c.loop-i.invariant ∙ ap (λ os. first_readable c.args.from (flat_map (operation_during t.operations t) os)) (take_whole t.operations c.loop-i.i (omega (arith, c.loop-i-test.false, c.len-i-end.ensures.len, same)))
