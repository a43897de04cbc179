use Rattle.st_laws_waits.proofs.Queued.{queued_law}
use Rattle.st_laws_waits.proofs.queued_clients_wait.Goals as goal

pub returns : goal.returns
returns c = queued_law
