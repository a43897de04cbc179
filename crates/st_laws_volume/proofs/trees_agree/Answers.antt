use Rattle.st_laws_volume.proofs.Trees as proved
use Rattle.st_laws_volume.proofs.trees_agree.Goals as goal

pub returns : goal.returns
returns c = proved.trees_agree
