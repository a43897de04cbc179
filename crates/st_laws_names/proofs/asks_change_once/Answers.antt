use Rattle.st_laws_names.proofs.Changes.{asks_change_once}
use Rattle.st_laws_names.proofs.asks_change_once.Goals as goal

pub returns : goal.returns
returns c = asks_change_once
