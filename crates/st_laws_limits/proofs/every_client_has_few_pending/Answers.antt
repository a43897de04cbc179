use Rattle.st_laws_limits.proofs.PendingRuns.{every_client_has_few_pending}
use Rattle.st_laws_limits.proofs.every_client_has_few_pending.Goals as goal

pub returns : goal.returns
returns c = every_client_has_few_pending
