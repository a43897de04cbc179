use Rattle.st_laws_leases.proofs.Sides.Runs.{no_conflict_sent}
use Rattle.st_laws_leases.proofs.no_conflict_is_sent.Goals as goal

pub returns : goal.returns
returns c = no_conflict_sent
