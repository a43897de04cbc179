use Rattle.st_laws_third.proofs.Welcomes.{every_welcome_is_fresh}
use Rattle.st_laws_third.proofs.law.every_welcome_is_fresh.Goals as goal

pub returns : goal.returns
returns c = every_welcome_is_fresh
