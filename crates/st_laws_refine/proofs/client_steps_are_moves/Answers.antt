use Rattle.st_laws_refine.proofs.Client.Steps.{client_steps_are_moves}
use Rattle.st_laws_refine.proofs.client_steps_are_moves.Goals as goal

pub returns : goal.returns
returns c = client_steps_are_moves
