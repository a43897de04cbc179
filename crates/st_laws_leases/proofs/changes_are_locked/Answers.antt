use Rattle.st_laws_leases.proofs.Sides.Runs.{changes_stay_locked}
use Rattle.st_laws_leases.proofs.changes_are_locked.Goals as goal

pub returns : goal.returns
returns c = changes_stay_locked
