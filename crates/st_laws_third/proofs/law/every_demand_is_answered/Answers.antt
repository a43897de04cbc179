use Rattle.st_laws_third.proofs.Demands.{every_demand_is_answered}
use Rattle.st_laws_third.proofs.law.every_demand_is_answered.Goals as goal

pub returns : goal.returns
returns c = every_demand_is_answered
