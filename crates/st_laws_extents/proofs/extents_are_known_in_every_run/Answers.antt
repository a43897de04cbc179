use Rattle.st_laws_extents.proofs.LockedRequests.Law.{is_told, known, maps_at, submits}
use Rattle.st_laws_extents.proofs.extents_are_known_in_every_run.Goals as goal

pub returns-clause-told : goal.returns-clause-told
returns-clause-told c = is_told

pub returns-clause-known : goal.returns-clause-known
returns-clause-known c = known

pub returns-clause-submits : goal.returns-clause-submits
returns-clause-submits c = submits

pub returns-clause-maps : goal.returns-clause-maps
returns-clause-maps c = maps_at
