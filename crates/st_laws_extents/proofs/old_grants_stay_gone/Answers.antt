use Rattle.st_laws_extents.proofs.Known.Current.{old_grants_stay_gone}
use Rattle.st_laws_extents.proofs.old_grants_stay_gone.Goals as goal

pub returns : goal.returns
returns c = old_grants_stay_gone
