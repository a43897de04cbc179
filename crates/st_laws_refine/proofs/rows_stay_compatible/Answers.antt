use Rattle.st_laws_refine.proofs.Server.Laws.{compatible}
use Rattle.st_laws_refine.proofs.rows_stay_compatible.Goals as goal

pub returns : goal.returns
returns c = compatible
