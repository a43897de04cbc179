use Rattle.st_laws_third.proofs.FewLocks.{every_client_has_few_locks}
use Rattle.st_laws_third.proofs.law.every_client_has_few_locks.Goals as goal

pub returns : goal.returns
returns c = every_client_has_few_locks
