use Rattle.st_laws_volume.proofs.Shown.{steps_show}
use Rattle.st_laws_volume.proofs.steps_show_the_event.Goals as goal

pub returns : goal.returns
returns c = steps_show
