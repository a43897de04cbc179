use Rattle.std.proofs.Common.{◌≡◌, ◌-◌, arith, subst, ap, ◌∙◌}
use Rattle.st_rules.specs.Generator.{choice}
use Rattle.st_generate_run.specs.Choice.{IsTry, found}
use Rattle.st_generate_run.proofs.Tries.{falls_back, goes_on, is_made}
use Rattle.st_generate_run.proofs.choice.choose.Goals as goal

pub returns-then-branch : goal.returns-then-branch
returns-then-branch g c =
    is_made c.loop-i._i (g.J.Judge.world c.args.judge.now) c.loop-i.draws c.try_one.new.event c.try_one.new.draws _ c.loop-i-test.true
    (subst (λ b. IsTry (g.J.Judge.world c.args.judge.now) c.loop-i.draws (found b c.try_one.new.event) c.try_one.new.draws) c.if-branch.true
    c.in_ok-try_one.ensures)
    c.loop-i.invariant

pub loop-i-preserved : goal.loop-i-preserved
loop-i-preserved g c =
    goes_on c.loop-i._i (g.J.Judge.world c.args.judge.now) c.loop-i.draws c.try_one.new.draws _ c.loop-i-test.true
    (subst (λ b. IsTry (g.J.Judge.world c.args.judge.now) c.loop-i.draws (found b c.try_one.new.event) c.try_one.new.draws) c.if-branch.false
    c.in_ok-try_one.ensures)
    c.loop-i.invariant

pub returns : goal.returns
returns g c =
    let l = c.loop-i-test.false in
    let r = c.loop-i.auto._i-end in
    ap (λ e. (e, c.loop-i.draws)) c.fallback_event.ensures
    ∙ falls_back (g.J.Judge.world c.args.judge.now) c.loop-i.draws _
    (ap (λ n. choice (16 - n) (g.J.Judge.world c.args.judge.now) c.loop-i.draws) (let e : 16 ≡ c.loop-i._i = omega (arith, l, r) in e) ∙ c.loop-i.invariant)
