use Rattle.st_laws_names.proofs.Facts.{replies_law}
use Rattle.st_laws_names.proofs.replies_are_of_their_events.Goals as goal

pub returns : goal.returns
returns c = replies_law
