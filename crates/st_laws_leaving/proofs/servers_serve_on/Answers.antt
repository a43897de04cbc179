use Rattle.st_laws_leaving.proofs.ServedClients.{servers_serve_on}
use Rattle.st_laws_leaving.proofs.servers_serve_on.Goals as goal

pub returns : goal.returns
returns c = servers_serve_on
