use Rattle.st_laws_reads.proofs.Copies.Locked.{changes_lie_under_locks}
use Rattle.st_laws_reads.proofs.changes_are_under_locks.Goals as goal

pub returns : goal.returns
returns c = changes_lie_under_locks
