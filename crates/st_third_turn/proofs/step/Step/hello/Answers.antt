use Rattle.st_lemmas.proofs.Words
use Words.{ap, ◌∙◌}
use Words.bodies
use Words.ClientState.{send}
use Rattle.st_third.specs.Leave.{hello}
use Rattle.st_third.specs.State.{plainly}
use Rattle.st_third_turn.proofs.Hello.{placed_hello, shown_hello}
use Rattle.st_third_turn.proofs.step.Step.hello.Goals as goal

pub invariant_of-self : goal.invariant_of-self
invariant_of-self c =
    placed_hello c.self.inside.aside c.self.inside.turn c.send.new.self c.args.now c.self.invariant
    (c.in-Ok.ensures ∙ ap (λ t. send t 0 0 c.args.now.0 bodies.Hello) c.set_greeting.ensures)

pub returns-in-Ok : goal.returns-in-Ok
returns-in-Ok c =
    shown_hello c.self.inside.aside c.self.inside.turn c.send.new.self c.args.now c.self.invariant.within
    (c.in-Ok.ensures ∙ ap (λ t. send t 0 0 c.args.now.0 bodies.Hello) c.set_greeting.ensures)
    ∙ ap (plainly (hello c.args.now)) c.self.view_is
