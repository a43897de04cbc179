use Rattle.st_move.proofs.Bounds.{moves_go_on}
use Rattle.st_move.proofs.moves_can_go_on.Goals as goal

pub returns : goal.returns
returns c = moves_go_on
