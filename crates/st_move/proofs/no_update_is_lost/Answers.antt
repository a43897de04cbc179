use Rattle.st_move.proofs.Runs.{no_update_is_lost}
use Rattle.st_move.proofs.no_update_is_lost.Goals as goal

pub returns : goal.returns
returns c = no_update_is_lost
