use Rattle.st_laws_due.proofs.DueServers.{time_kept}
use Rattle.st_laws_due.proofs.due_servers_keep_time.Goals as goal

pub returns : goal.returns
returns c = time_kept
