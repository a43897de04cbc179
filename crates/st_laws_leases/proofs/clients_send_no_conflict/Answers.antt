use Rattle.st_laws_leases.proofs.Dates.Law.{calm_law}
use Rattle.st_laws_leases.proofs.clients_send_no_conflict.Goals as goal

pub returns : goal.returns
returns c = calm_law
