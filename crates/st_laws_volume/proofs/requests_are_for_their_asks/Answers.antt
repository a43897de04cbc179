use Rattle.st_laws_volume.proofs.RequestGrants as proved
use Rattle.st_laws_volume.proofs.requests_are_for_their_asks.Goals as goal

pub returns : goal.returns
returns c = proved.requests_are_for_their_asks
