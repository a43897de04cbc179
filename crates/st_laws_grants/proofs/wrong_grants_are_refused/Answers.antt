use Rattle.st_lemmas.proofs.Words
use Words.{refl}
use Rattle.st_laws_grants.proofs.wrong_grants_are_refused.Goals as goal

pub returns : goal.returns
returns c = record { clients = refl; files = refl; again = refl; falling = refl; rising = refl }
