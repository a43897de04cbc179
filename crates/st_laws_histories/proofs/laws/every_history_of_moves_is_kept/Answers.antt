use Rattle.st_laws_histories.proofs.MoveHistories.{every_move}
use Rattle.st_laws_histories.proofs.laws.every_history_of_moves_is_kept.Goals as goal

pub returns : goal.returns
returns c = every_move c.no_update_is_lost.ensures
