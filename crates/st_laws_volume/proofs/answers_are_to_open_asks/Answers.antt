use Rattle.st_laws_volume.proofs.OpenAnswers as proved
use Rattle.st_laws_volume.proofs.answers_are_to_open_asks.Goals as goal

pub returns : goal.returns
returns c = proved.answers_are_to_open_asks
