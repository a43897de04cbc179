use Rattle.st_laws_refine.proofs.Server.Laws.{waits_keep}
use Rattle.st_laws_refine.proofs.servers_wait.Goals as goal

pub returns : goal.returns
returns c = waits_keep
