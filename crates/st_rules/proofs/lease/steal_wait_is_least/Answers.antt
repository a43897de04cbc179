use Rattle.st_rules.proofs.Waits.{least_wait}
use Rattle.st_rules.proofs.lease.steal_wait_is_least.Goals as goal

pub returns : goal.returns
returns c = least_wait
