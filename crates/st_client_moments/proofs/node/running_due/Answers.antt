use Rattle.std.proofs.Common.{◌∙◌, ap, arith}
use Rattle.std.specs.List.{flat_map}
use Rattle.st_client_due.specs.ClientDue.{during_here}
use Rattle.st_client_moments.specs.FirstMoments.{first_readable}
use Rattle.st_client_moments.proofs.SpanMoments.{first_placed, take_whole}
use Rattle.st_client_moments.proofs.node.running_due.Goals as goal

pub loop-i-preserved : goal.loop-i-preserved
loop-i-preserved c =
    let s = c.args.state.now in
    c.sooner-first.ensures ∙ first_placed (during_here s) c.args.from s.associations c.loop-i.i c.loop-i.first c.in_ok-due.due c.loop-i.invariant c.in_ok-due.ensures

pub returns : goal.returns
returns c =
    let s = c.args.state.now in
    c.loop-i.invariant ∙ ap (λ xs. first_readable c.args.from (flat_map (during_here s) xs)) (take_whole s.associations c.loop-i.i (omega (arith, c.loop-i-test.false, c.count-i-end.ensures)))
