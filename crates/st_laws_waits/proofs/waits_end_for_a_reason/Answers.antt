use Rattle.st_laws_waits.proofs.Standing.{reason_law}
use Rattle.st_laws_waits.proofs.waits_end_for_a_reason.Goals as goal

pub returns : goal.returns
returns c = reason_law
