use Rattle.st_laws_third.proofs.Living.{clients_live_on}
use Rattle.st_laws_third.proofs.law.third_clients_live_on.Goals as goal

pub returns : goal.returns
returns c = clients_live_on
