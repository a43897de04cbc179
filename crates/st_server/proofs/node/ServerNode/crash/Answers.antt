use Rattle.st_lemmas.proofs.Words
use Words.{ap, sym, subst}
use Words.Server.{ServerTurn}
use Rattle.st_server.specs.Room.{taken_locks}
use Rattle.st_server.specs.Invariants.{IsSound}
use Rattle.st_server.proofs.Begins.{crash_sound}
use Rattle.st_server.proofs.node.ServerNode.crash.Goals as goal

pub invariant_of-self : goal.invariant_of-self
invariant_of-self c = (
  ap (λ (t : ServerTurn). t.out) c.crash.ensures,
  subst (λ (t : ServerTurn). IsSound t.state) (sym c.crash.ensures) (crash_sound (taken_locks c.self.inside.machine.state.locks) c.self.inside.machine.state c.self.invariant.1),
)
