use Rattle.st_lemmas.proofs.Words
use Words.{subst}
use Words.Server.{ServerNode}
use Rattle.st_server.specs.Invariants.{IsSound}
use Rattle.st_server.proofs.node.ServerNode.running.Goals as goal

pub returns-clause-sound : goal.returns-clause-sound
returns-clause-sound c = subst (λ (n : ServerNode). IsSound n.state) c.self.view_is c.self.invariant.1
