use Rattle.st_laws_volume.proofs.RefusalNotices as proved
use Rattle.st_laws_volume.proofs.refusals_are_noticed.Goals as goal

pub returns : goal.returns
returns c = proved.refusals_are_noticed
