use Rattle.st_laws_third.proofs.DemandRuns.{every_run_answers_demands}
use Rattle.st_laws_third.proofs.law.every_run_answers_demands.Goals as goal

pub returns : goal.returns
returns c = every_run_answers_demands
