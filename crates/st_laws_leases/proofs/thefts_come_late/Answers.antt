use Rattle.st_laws_leases.proofs.Sides.Runs.{thefts_come_late}
use Rattle.st_laws_leases.proofs.thefts_come_late.Goals as goal

pub returns : goal.returns
returns c = thefts_come_late
