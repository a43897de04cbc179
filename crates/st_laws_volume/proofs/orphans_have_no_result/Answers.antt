use Rattle.st_laws_volume.proofs.OrphanResults as proved
use Rattle.st_laws_volume.proofs.orphans_have_no_result.Goals as goal

pub returns : goal.returns
returns c = proved.orphans_have_no_result
