use Rattle.st_laws_volume.proofs.Epochs as proved
use Rattle.st_laws_volume.proofs.epochs_agree.Goals as goal

pub returns : goal.returns
returns c = proved.epochs_agree
