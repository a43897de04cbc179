use Rattle.st_laws_third.proofs.DemandsSeen.{every_demand_is_seen}
use Rattle.st_laws_third.proofs.law.every_demand_is_seen.Goals as goal

pub returns : goal.returns
returns c = every_demand_is_seen
