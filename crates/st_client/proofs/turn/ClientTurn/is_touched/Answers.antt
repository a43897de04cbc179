use Rattle.st_lemmas.proofs.Words
use Words.{ap, subst, ◌∙◌}
use Words.ClientState.{ClientTurn}
use Rattle.st_client.specs.declared.parts.ClientParts.{ClientParts}
use Rattle.st_client.specs.IdleRules.{IsIdle}
use Rattle.st_client.proofs.turn.ClientTurn.is_touched.Goals as goal

pub returns : goal.returns
returns g c =
    λ e. subst (λ os. IsIdle (g.R.Rule.run c.args.rule.now) os c.args.a.now) (ap (λ (p : ClientParts). p.operations) c.deref.ensures ∙ ap (λ (t : ClientTurn). t.state.operations) c.self.view_is)
    (c.touches.ensures e)
