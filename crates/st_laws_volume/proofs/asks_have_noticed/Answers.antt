use Rattle.st_laws_volume.proofs.Notices as proved
use Rattle.st_laws_volume.proofs.asks_have_noticed.Goals as goal

pub returns : goal.returns
returns c = proved.asks_have_noticed
