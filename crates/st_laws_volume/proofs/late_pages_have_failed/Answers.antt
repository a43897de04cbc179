use Rattle.st_laws_volume.proofs.LatePages as proved
use Rattle.st_laws_volume.proofs.late_pages_have_failed.Goals as goal

pub returns : goal.returns
returns c = proved.late_pages_have_failed
