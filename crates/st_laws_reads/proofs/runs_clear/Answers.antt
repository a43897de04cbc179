use Rattle.st_laws_reads.proofs.AllClients.Cleared.{runs_clear}
use Rattle.st_laws_reads.proofs.runs_clear.Goals as goal

pub returns : goal.returns
returns c = runs_clear
