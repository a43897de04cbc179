use Rattle.std.proofs.Common.{◌≡◌, ◌∙◌, sym, subst}
use Rattle.std.specs.Prelude.{OnOk, false, true}
use Rattle.st_rules.specs.ClientPasses.{may_reduce}
use Rattle.st_client_passes.proofs.Sessions.{reduces}
use Rattle.st_client_passes.proofs.reductions.reduce.Goals as goal

pub returns-then-may_reduce : goal.returns-then-may_reduce
returns-then-may_reduce c =
    subst (λ u. OnOk c.reduce_by.result (c.reduce_by.new.t ≡ u))
    (sym
    (reduces c.args.t.now c.args.ino true c.session.ensures.held
    (sym (c.may_reduce.ensures ∙ (λ i. may_reduce (c.turn.ensures i) (c.session.ensures.is i).session c.args.ino)) ∙ c.if-may_reduce.true)))
    c.reduce_by.ensures

pub returns-else-may_reduce : goal.returns-else-may_reduce
returns-else-may_reduce c =
    sym
    (reduces c.args.t.now c.args.ino false c.session.ensures.held
    (sym (c.may_reduce.ensures ∙ (λ i. may_reduce (c.turn.ensures i) (c.session.ensures.is i).session c.args.ino)) ∙ c.if-may_reduce.false))
