use Rattle.st_laws_lasting.proofs.Renewed.{renewed_law}
use Rattle.st_laws_lasting.proofs.resting_leases_are_renewed.Goals as goal

pub returns : goal.returns
returns c = renewed_law
