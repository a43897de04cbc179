use Rattle.st_laws_leaving.proofs.LeaverRuns.{every_leaver_has_nothing}
use Rattle.st_laws_leaving.proofs.every_leaver_has_nothing.Goals as goal

pub returns : goal.returns
returns c = every_leaver_has_nothing
