use Rattle.st_lemmas.proofs.Words
use Words.{◌<◌, ◌-◌, ◌^◌, ap, sym, subst}
use Words.Server.{ServerNode, ServerTurn}
use Rattle.st_server.specs.Room.{taken_locks}
use Rattle.st_server.specs.Invariants.{IsSound}
use Rattle.st_server.proofs.Begins.{start_sound}
use Rattle.st_server.proofs.SoundSteps.{moment_word}
use Rattle.st_server.proofs.node.ServerNode.start.Goals as goal

pub invariant_of-self : goal.invariant_of-self
invariant_of-self c = (
  ap (λ (t : ServerTurn). t.out) c.start.ensures,
  subst (λ (t : ServerTurn). IsSound t.state) (sym c.start.ensures)
      (start_sound (taken_locks c.self.inside.machine.state.locks) c.self.inside.machine.state c.args.now
      (subst (λ (n : ServerNode). n.state.stable.epoch.0 < 2 ^ 32 - 1) (sym c.self.view_is) c.requires.epochs)
      (moment_word c.args.now.0 c.requires.time) c.self.invariant.1),
)
