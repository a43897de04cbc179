use Rattle.st_shared.proofs.EveryHistory.{every_history}
use Rattle.st_shared.proofs.law.every_history_is_right.Goals as goal

pub returns : goal.returns
returns c = every_history
