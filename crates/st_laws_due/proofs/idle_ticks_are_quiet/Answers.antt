use Rattle.st_laws_due.proofs.IdleTicks.{idle_ticks}
use Rattle.st_laws_due.proofs.idle_ticks_are_quiet.Goals as goal

pub returns : goal.returns
returns c = idle_ticks
