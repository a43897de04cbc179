use Rattle.st_laws_pages.proofs.Causes.Law.{hard_law}
use Rattle.st_laws_pages.proofs.hard_is_hard.Goals as goal

pub returns : goal.returns
returns c = hard_law
