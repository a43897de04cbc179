use Rattle.st_laws_volume.proofs.Asks as proved
use Rattle.st_laws_volume.proofs.asks_agree.Goals as goal

pub returns : goal.returns
returns c = proved.asks_agree
