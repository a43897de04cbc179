use Rattle.st_laws_leaving.proofs.QuietClients.{servers_stay_quiet}
use Rattle.st_laws_leaving.proofs.servers_stay_quiet.Goals as goal

pub returns : goal.returns
returns c = servers_stay_quiet
