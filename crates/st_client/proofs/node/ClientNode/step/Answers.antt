use Rattle.st_lemmas.proofs.Words
use Words.{ap, sym, subst, ◌∙◌}
use Words.Client.{ClientNode}
use Rattle.st_client.proofs.NodeSteps.{node_discards, node_sends, runs_steps}
use Rattle.st_client.specs.Invariants.{IsSound}
use Rattle.st_client.proofs.node.ClientNode.step.Goals as goal

pub returns-then-is_some-clause-sent : goal.returns-then-is_some-clause-sent
returns-then-is_some-clause-sent c =
    let running = sym (ap (λ (n : ClientNode). n.running) c.self.view_is) ∙ sym c.is_some.ensures ∙ c.if-is_some.true in
    let steps = runs_steps c.args.self.now c.step_running.new.self c.step_running.result c.args.now c.args.input running c.step_running.ensures in
    let sound = subst (λ (n : ClientNode). IsSound n.state) c.self.view_is c.self.invariant.sound in
    node_sends c.args.self.now c.step_running.new.self c.step_running.result c.args.now c.args.input steps sound c.requires.room c.requires.time c.requires.fits

pub returns-then-is_some-clause-discarding : goal.returns-then-is_some-clause-discarding
returns-then-is_some-clause-discarding c =
    let running = sym (ap (λ (n : ClientNode). n.running) c.self.view_is) ∙ sym c.is_some.ensures ∙ c.if-is_some.true in
    let steps = runs_steps c.args.self.now c.step_running.new.self c.step_running.result c.args.now c.args.input running c.step_running.ensures in
    λ s over. node_discards s c.args.self.now c.step_running.new.self c.step_running.result c.args.now c.args.input steps over
