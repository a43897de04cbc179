use Rattle.st_laws_third.proofs.ShortRuns.{every_allocation_is_short}
use Rattle.st_laws_third.proofs.law.every_allocation_is_short.Goals as goal

pub returns : goal.returns
returns c = every_allocation_is_short
