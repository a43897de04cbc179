use Rattle.st_laws_extents.proofs.ExtentReplies.Received.{is_told, known, submits}
use Rattle.st_laws_extents.proofs.known_extents_are_told.Goals as goal

pub returns-clause-told : goal.returns-clause-told
returns-clause-told c = is_told

pub returns-clause-known : goal.returns-clause-known
returns-clause-known c = known

pub returns-clause-submits : goal.returns-clause-submits
returns-clause-submits c = submits
