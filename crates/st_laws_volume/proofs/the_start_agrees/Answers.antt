use Rattle.st_laws_volume.proofs.Start.{start_agrees}
use Rattle.st_laws_volume.proofs.the_start_agrees.Goals as goal

pub returns : goal.returns
returns c = start_agrees
