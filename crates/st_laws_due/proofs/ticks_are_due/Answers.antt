use Rattle.st_laws_due.proofs.Ticks.{tick_law}
use Rattle.st_laws_due.proofs.ticks_are_due.Goals as goal

pub returns : goal.returns
returns c = tick_law
