use Rattle.st_laws_reports.proofs.Losses.{losses_law}
use Rattle.st_laws_reports.proofs.losses_are_told.Goals as goal

pub returns : goal.returns
returns c = losses_law
