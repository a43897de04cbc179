use Rattle.st_laws_leaving.proofs.WhoLeft.{everyone_who_left_has_nothing}
use Rattle.st_laws_leaving.proofs.everyone_who_left_has_nothing.Goals as goal

pub returns : goal.returns
returns c = everyone_who_left_has_nothing
