use Rattle.st_laws_pages.proofs.Asks.Law.{unused_law}
use Rattle.st_laws_pages.proofs.expired_leases_use_nothing.Goals as goal

pub returns : goal.returns
returns c = unused_law
