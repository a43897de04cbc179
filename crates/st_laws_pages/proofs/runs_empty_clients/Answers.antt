use Rattle.st_laws_pages.proofs.Losses.Halves.{whole_law}
use Rattle.st_laws_pages.proofs.runs_empty_clients.Goals as goal

pub returns : goal.returns
returns c = whole_law
