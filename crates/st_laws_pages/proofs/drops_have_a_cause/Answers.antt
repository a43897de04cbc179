use Rattle.st_laws_pages.proofs.Causes.Law.{causes_law}
use Rattle.st_laws_pages.proofs.drops_have_a_cause.Goals as goal

pub returns : goal.returns
returns c = causes_law
