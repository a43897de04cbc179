use Rattle.st_laws_names.proofs.World.{operations_ask_once}
use Rattle.st_laws_names.proofs.operations_ask_once.Goals as goal

pub returns : goal.returns
returns c = operations_ask_once
