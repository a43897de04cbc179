use Rattle.st_laws_safe.proofs.Gathered.{every_run}
use Rattle.st_laws_volume.proofs.NoSpaceAnswers as proved
use Rattle.st_laws_volume.proofs.servers_were_full.Goals as goal

pub returns : goal.returns
returns c = proved.servers_were_full every_run
