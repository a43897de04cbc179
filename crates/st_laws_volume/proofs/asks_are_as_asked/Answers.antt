use Rattle.st_laws_volume.proofs.AskedAsks as proved
use Rattle.st_laws_volume.proofs.asks_are_as_asked.Goals as goal

pub returns : goal.returns
returns c = proved.asks_are_as_asked
