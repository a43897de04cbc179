use Rattle.st_laws_waits.proofs.Standing.{grace_law}
use Rattle.st_laws_waits.proofs.graces_end.Goals as goal

pub returns : goal.returns
returns c = grace_law
