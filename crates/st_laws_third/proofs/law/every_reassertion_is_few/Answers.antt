use Rattle.st_laws_third.proofs.FewRows.{every_reassertion_is_few}
use Rattle.st_laws_third.proofs.law.every_reassertion_is_few.Goals as goal

pub returns : goal.returns
returns c = every_reassertion_is_few
