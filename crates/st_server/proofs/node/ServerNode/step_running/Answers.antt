use Rattle.st_lemmas.proofs.Words
use Words.{◌≡◌, ap, sym, subst, ◌∙◌, List, true, list_all, Output}
use Words.Server.{ServerNode, ServerTurn}
use Rattle.st_server.specs.Room.{HasRoom}
use Rattle.st_server.specs.Invariants.{IsSound, is_sent}
use Rattle.st_server.specs.Steps.{stepped}
use Rattle.st_server.proofs.SoundSteps.{moment_word, step_sound, step_sent, fails_sound, ran_is, crashed_is, either_back}
use Rattle.st_server.proofs.node.ServerNode.step_running.Goals as goal

pub invariant_of-self : goal.invariant_of-self
invariant_of-self c =
    let room : HasRoom c.self.inside.machine.state = subst (λ (n : ServerNode). HasRoom n.state) (sym c.self.view_is) c.requires.room in
    let left : c.take_outputs.new.self.state ≡ (stepped c.self.inside.machine c.args.now c.args.input.now).state
    = ap (λ (t : ServerTurn). t.state) c.take_outputs.ensures.left ∙ ap (λ (t : ServerTurn). t.state) c.in-Ok.ensures.ok in (
      ap (λ (t : ServerTurn). t.out) c.take_outputs.ensures.left,
      subst IsSound (sym left)
          (step_sound c.self.inside.machine c.args.now c.args.input.now c.self.invariant.0 c.self.invariant.1 room (moment_word c.args.now.0 c.requires.time) c.requires.fits),
    )

pub invariant_of-self-in-Err : goal.invariant_of-self-in-Err
invariant_of-self-in-Err c =
    let room : HasRoom c.self.inside.machine.state = subst (λ (n : ServerNode). HasRoom n.state) (sym c.self.view_is) c.requires.room in (
      ap (λ (t : ServerTurn). t.out) c.crash.ensures,
      subst IsSound (sym (ap (λ (t : ServerTurn). t.state) c.crash.ensures))
          (fails_sound c.self.inside.machine c.step.new.self (stepped c.self.inside.machine c.args.now c.args.input.now) c.self.invariant.1
          (step_sound c.self.inside.machine c.args.now c.args.input.now c.self.invariant.0 c.self.invariant.1 room (moment_word c.args.now.0 c.requires.time) c.requires.fits)
          c.in-Err.ensures.err),
    )

pub returns-in-Ok-clause-exact : goal.returns-in-Ok-clause-exact
returns-in-Ok-clause-exact c =
    ran_is c.args.self.now c.self.inside.machine c.take_outputs.new.self c.self.inside.running c.take_outputs.result c.args.now c.args.input.now
    (ap (λ (n : ServerNode). n.state) c.self.view_is) c.self.invariant.0 (ap (λ (n : ServerNode). n.running) c.self.view_is)
    (ap (λ (t : ServerTurn). t.state) c.take_outputs.ensures.left ∙ ap (λ (t : ServerTurn). t.state) c.in-Ok.ensures.ok)
    (c.take_outputs.ensures.out ∙ ap (λ (t : ServerTurn). t.out) c.in-Ok.ensures.ok)

pub returns-in-Ok-clause-sent : goal.returns-in-Ok-clause-sent
returns-in-Ok-clause-sent c =
    let room : HasRoom c.self.inside.machine.state = subst (λ (n : ServerNode). HasRoom n.state) (sym c.self.view_is) c.requires.room in
    subst (λ (os : List Output). list_all is_sent os ≡ true) (sym (c.take_outputs.ensures.out ∙ ap (λ (t : ServerTurn). t.out) c.in-Ok.ensures.ok))
    (step_sent c.self.inside.machine c.args.now c.args.input.now c.self.invariant.0 c.self.invariant.1 room (moment_word c.args.now.0 c.requires.time) c.requires.fits)

pub returns-in-Err-clause-exact : goal.returns-in-Err-clause-exact
returns-in-Err-clause-exact c =
    either_back (crashed_is c.args.self.now c.self.inside.machine c.step.new.self c.crash.new.self.state c.args.now c.args.input.now
    (ap (λ (n : ServerNode). n.state) c.self.view_is) c.self.invariant.0 (ap (λ (t : ServerTurn). t.state) c.crash.ensures) c.in-Err.ensures.err)
