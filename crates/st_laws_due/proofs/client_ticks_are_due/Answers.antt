use Rattle.st_laws_due.proofs.ClientTickLaw.{client_tick_law}
use Rattle.st_laws_due.proofs.client_ticks_are_due.Goals as goal

pub returns : goal.returns
returns c = client_tick_law
