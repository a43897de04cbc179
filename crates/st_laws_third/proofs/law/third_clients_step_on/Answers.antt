use Rattle.st_laws_third.proofs.Stepping.{clients_step_on}
use Rattle.st_laws_third.proofs.law.third_clients_step_on.Goals as goal

pub returns : goal.returns
returns c = clients_step_on
