use Rattle.st_laws_volume.proofs.DirtyOnce as proved
use Rattle.st_laws_volume.proofs.pages_are_once.Goals as goal

pub returns : goal.returns
returns c = proved.pages_are_once
