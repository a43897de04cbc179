use Rattle.st_laws_pages.proofs.Causes.Law.{open_law}
use Rattle.st_laws_pages.proofs.open_writes_are_listed.Goals as goal

pub returns : goal.returns
returns c = open_law
