use Rattle.st_laws_third.proofs.Pairs.{clients_stay_paired}
use Rattle.st_laws_third.proofs.law.clients_stay_paired.Goals as goal

pub returns : goal.returns
returns c = clients_stay_paired
