use Rattle.st_laws_third.proofs.FirstHeads.{first_heads_stay}
use Rattle.st_laws_third.proofs.law.first_heads_stay.Goals as goal

pub returns : goal.returns
returns c = first_heads_stay
