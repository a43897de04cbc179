use Rattle.st_laws_clocks.proofs.InBound.{every_run_is_in_bound}
use Rattle.st_laws_clocks.proofs.law.clocks_are_in_bound.Goals as goal

pub returns : goal.returns
returns c = every_run_is_in_bound
