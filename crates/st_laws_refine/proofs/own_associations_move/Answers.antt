use Rattle.st_laws_refine.proofs.Client.Sim.{own_moves}
use Rattle.st_laws_refine.proofs.own_associations_move.Goals as goal

pub returns : goal.returns
returns c = own_moves
