use Rattle.st_laws_pages.proofs.Asks.Law.{places_law}
use Rattle.st_laws_pages.proofs.runs_keep_places.Goals as goal

pub returns : goal.returns
returns c = places_law
