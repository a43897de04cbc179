use Rattle.st_laws_extents.proofs.Known.Law.{known, submits}
use Rattle.st_laws_extents.proofs.known_extents.Goals as goal

pub returns-clause-known : goal.returns-clause-known
returns-clause-known c = known

pub returns-clause-submits : goal.returns-clause-submits
returns-clause-submits c = submits
