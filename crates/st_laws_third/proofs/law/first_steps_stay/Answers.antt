use Rattle.st_laws_third.proofs.FirstSteps.{first_steps_stay}
use Rattle.st_laws_third.proofs.law.first_steps_stay.Goals as goal

pub returns : goal.returns
returns c = first_steps_stay
