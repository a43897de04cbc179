use Rattle.st_laws_volume.proofs.RequestAsks as proved
use Rattle.st_laws_volume.proofs.requests_have_asks.Goals as goal

pub returns : goal.returns
returns c = proved.requests_have_asks
