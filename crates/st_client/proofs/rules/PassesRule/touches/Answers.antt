use Rattle.st_lemmas.proofs.Words
use Words.{sym, ◌∙◌}
use Rattle.st_client.proofs.Sleeping.{idle_passes}
use Rattle.st_client.proofs.rules.PassesRule.touches.Goals as goal

pub returns-else-any_may_act : goal.returns-else-any_may_act
returns-else-any_may_act c =
    λ e. idle_passes c.args.self.now.now c.args.self.now.tick c.args.operations.now c.args.a.now c.server-server.result c.takes_all-all.result
    c.server-server.ensures c.takes_all-all.ensures (sym c.any_may_act.ensures ∙ c.if-any_may_act.false) (c.is_awake.ensures e)
