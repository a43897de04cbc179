use Rattle.st_laws_volume.proofs.RepliesNoticed as proved
use Rattle.st_laws_volume.proofs.replies_stay_noticed.Goals as goal

pub returns : goal.returns
returns c = proved.replies_stay_noticed
