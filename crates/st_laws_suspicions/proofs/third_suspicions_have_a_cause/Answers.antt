use Rattle.st_laws_suspicions.proofs.Causes.{causes_law}
use Rattle.st_laws_suspicions.proofs.third_suspicions_have_a_cause.Goals as goal

pub returns : goal.returns
returns c = causes_law
