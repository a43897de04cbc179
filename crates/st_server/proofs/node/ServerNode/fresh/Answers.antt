use Rattle.st_lemmas.proofs.Words
use Words.{ap, sym, subst}
use Words.Server.{ServerTurn}
use Rattle.st_server.specs.Invariants.{IsSound}
use Rattle.st_server.proofs.Begins.{fresh_sound}
use Rattle.st_server.proofs.node.ServerNode.fresh.Goals as goal

pub invariant_of-result : goal.invariant_of-result
invariant_of-result c = (
  ap (λ (t : ServerTurn). t.out) c.in_ok-fresh.ensures,
  subst (λ (t : ServerTurn). IsSound t.state) (sym c.in_ok-fresh.ensures) (fresh_sound c.args.id c.args.config.now c.args.servers c.args.disks c.args.blocks c.requires.limits),
)
