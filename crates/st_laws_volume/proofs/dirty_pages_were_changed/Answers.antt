use Rattle.st_laws_volume.proofs.DirtyBefore as proved
use Rattle.st_laws_volume.proofs.dirty_pages_were_changed.Goals as goal

pub returns : goal.returns
returns c = proved.dirty_pages_were_changed
