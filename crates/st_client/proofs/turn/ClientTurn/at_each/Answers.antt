use Rattle.st_lemmas.proofs.Words
use Words.{◌≤◌, arith}
use Rattle.st_client.proofs.Placing.{all_done, next_done, next_ready, next_within, none_done}
use Rattle.st_client.proofs.turn.ClientTurn.at_each.Goals as goal

pub loop-place-init : goal.loop-place-init
loop-place-init g c = none_done (g.R.Rule.run c.args.rule.now) (g.R.Rule.is_ready c.args.rule.now) c.args.self c.count-count.result c.count-count.ensures c.requires

pub at_next-requires-clause-within : goal.at_next-requires-clause-within
at_next-requires-clause-within g c =
    next_within (g.R.Rule.run c.args.rule.now) (g.R.Rule.is_ready c.args.rule.now) c.count-count.result c.loop-place.place c.loop-place.machine _ c.loop-place-test.true c.loop-place.invariant

pub at_next-requires-clause-ready : goal.at_next-requires-clause-ready
at_next-requires-clause-ready g c =
    next_ready (g.R.Rule.run c.args.rule.now) (g.R.Rule.is_ready c.args.rule.now) c.count-count.result c.loop-place.place c.loop-place.machine _ c.loop-place-test.true c.loop-place.invariant

pub loop-place-preserved : goal.loop-place-preserved
loop-place-preserved g c =
    next_done (g.R.Rule.run c.args.rule.now) (g.R.Rule.is_ready c.args.rule.now) c.count-count.result c.loop-place.place c.loop-place.machine c.in_ok-machine.machine _ c.loop-place-test.true
    c.in_ok-machine.ensures c.loop-place.invariant

pub returns : goal.returns
returns g c =
    let l = c.loop-place-test.false in
    let e : c.count-count.result ≤ c.loop-place.place = omega (arith, l) in
    all_done (g.R.Rule.run c.args.rule.now) (g.R.Rule.is_ready c.args.rule.now) c.count-count.result c.loop-place.place c.loop-place.machine _ e c.loop-place.invariant
