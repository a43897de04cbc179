use Rattle.st_laws_grants.proofs.Law.{rising}
use Rattle.st_laws_grants.proofs.grant_numbers_rise.Goals as goal

pub returns : goal.returns
returns c = rising
