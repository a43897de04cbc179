use Rattle.st_laws_volume.proofs.TreeAnswers.{does_the_same}
use Rattle.st_laws_volume.proofs.trees_do_what_names_do.Goals as goal

pub returns : goal.returns
returns c = does_the_same
