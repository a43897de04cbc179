use Rattle.st_laws_volume.proofs.SentRequests as proved
use Rattle.st_laws_volume.proofs.requests_are_in_order.Goals as goal

pub returns : goal.returns
returns c = proved.requests_are_in_order
