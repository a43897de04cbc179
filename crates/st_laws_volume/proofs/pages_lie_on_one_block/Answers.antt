use Rattle.st_laws_volume.proofs.PagesLie as proved
use Rattle.st_laws_volume.proofs.pages_lie_on_one_block.Goals as goal

pub returns : goal.returns
returns c = proved.pages_lie_on_one_block
