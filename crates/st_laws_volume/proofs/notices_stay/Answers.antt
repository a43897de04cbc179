use Rattle.st_laws_volume.proofs.NoticesStay as proved
use Rattle.st_laws_volume.proofs.notices_stay.Goals as goal

pub returns : goal.returns
returns c = proved.notices_stay
