use Rattle.std.proofs.Common.{◌∙◌, sym, ap, arith}
use Rattle.std.specs.Prelude.{length}
use Rattle.st_client_passes.proofs.FirstAsking.{asking_here, asking_none, asking_past}
use Rattle.st_client_passes.proofs.next_request.first_asking.Goals as goal

pub returns-in-Some : goal.returns-in-Some
returns-in-Some c =
    sym (asking_here c.args.t.now c.args.session.now.session c.args.now c.args.t.now.operations c.loop-i.i c.in-Some.wanted (sym c.in_ok-wanted.ensures ∙ c.in-Some.is))
    ∙ c.loop-i.invariant

pub loop-i-preserved : goal.loop-i-preserved
loop-i-preserved c =
    sym (asking_past c.args.t.now c.args.session.now.session c.args.now c.args.t.now.operations c.loop-i.i (sym c.in_ok-wanted.ensures ∙ c.in-None.is))
    ∙ c.loop-i.invariant

pub returns : goal.returns
returns c =
    sym (asking_none c.args.t.now c.args.session.now.session c.args.now c.args.t.now.operations c.loop-i.i (omega (arith, c.loop-i-test.false, c.len-i-end.ensures.len, ap length c.operations.ensures)))
    ∙ c.loop-i.invariant
