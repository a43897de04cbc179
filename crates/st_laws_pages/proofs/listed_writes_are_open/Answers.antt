use Rattle.st_laws_pages.proofs.Causes.Law.{listed_law}
use Rattle.st_laws_pages.proofs.listed_writes_are_open.Goals as goal

pub returns : goal.returns
returns c = listed_law
