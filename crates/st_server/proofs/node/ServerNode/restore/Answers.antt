use Rattle.st_lemmas.proofs.Words
use Words.{ap, sym, subst}
use Words.Server.{ServerTurn}
use Rattle.st_server.specs.Parts.{stable_of}
use Rattle.st_server.specs.Invariants.{IsSound}
use Rattle.st_server.proofs.Begins.{restored_sound}
use Rattle.st_server.proofs.node.ServerNode.restore.Goals as goal

pub invariant_of-result : goal.invariant_of-result
invariant_of-result c = (
  ap (λ (t : ServerTurn). t.out) c.restore.ensures,
  subst (λ (t : ServerTurn). IsSound t.state) (sym c.restore.ensures) (restored_sound c.args.id c.args.config.now (stable_of c.args.stable) c.requires.some c.requires.known c.requires.stable),
)
