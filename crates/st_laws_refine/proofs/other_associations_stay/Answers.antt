use Rattle.st_laws_refine.proofs.Client.Sim.{others_stay}
use Rattle.st_laws_refine.proofs.other_associations_stay.Goals as goal

pub returns : goal.returns
returns c = others_stay
