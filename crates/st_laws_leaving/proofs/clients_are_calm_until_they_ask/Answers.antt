use Rattle.st_laws_leaving.proofs.ClientSteps.{clients_are_calm_until_they_ask}
use Rattle.st_laws_leaving.proofs.clients_are_calm_until_they_ask.Goals as goal

pub returns : goal.returns
returns c = clients_are_calm_until_they_ask
