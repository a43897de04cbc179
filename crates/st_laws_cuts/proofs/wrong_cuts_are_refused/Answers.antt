use Rattle.st_lemmas.proofs.Words
use Words.{refl}
use Rattle.st_laws_cuts.proofs.wrong_cuts_are_refused.Goals as goal

pub returns : goal.returns
returns c = record { holder = refl; name = refl; both = refl; silent = refl; done = refl; removed = refl; idle = refl }
