use Rattle.st_laws_third_leases.proofs.Lasting.{lasting_law}
use Rattle.st_laws_third_leases.proofs.third_leases_last.Goals as goal

pub returns : goal.returns
returns c = lasting_law
