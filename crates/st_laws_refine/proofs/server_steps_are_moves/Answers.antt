use Rattle.st_laws_refine.proofs.Server.Laws.{server_steps_are_moves}
use Rattle.st_laws_refine.proofs.server_steps_are_moves.Goals as goal

pub returns : goal.returns
returns c = server_steps_are_moves
