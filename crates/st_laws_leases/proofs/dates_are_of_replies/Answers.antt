use Rattle.st_laws_leases.proofs.History.RepliesLaw.{replies_law}
use Rattle.st_laws_leases.proofs.dates_are_of_replies.Goals as goal

pub returns : goal.returns
returns c = replies_law
