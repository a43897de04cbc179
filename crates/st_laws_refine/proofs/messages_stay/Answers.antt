use Rattle.st_laws_refine.proofs.Views.Moves.{moves_grow}
use Rattle.st_laws_refine.proofs.messages_stay.Goals as goal

pub returns : goal.returns
returns c k a b moves m there = moves_grow moves m there
