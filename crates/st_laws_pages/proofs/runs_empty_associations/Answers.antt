use Rattle.st_laws_pages.proofs.Losses.Law.{runs_empty_associations}
use Rattle.st_laws_pages.proofs.runs_empty_associations.Goals as goal

pub returns : goal.returns
returns c = runs_empty_associations
