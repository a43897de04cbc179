use Rattle.st_laws_waits.proofs.AnyWaits.{any_reason_law}
use Rattle.st_laws_waits.proofs.every_wait_ends_for_a_reason.Goals as goal

pub returns : goal.returns
returns c = any_reason_law
