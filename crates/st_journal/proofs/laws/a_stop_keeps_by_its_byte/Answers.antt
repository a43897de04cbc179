use Rattle.st_journal.proofs.Stops.{ends_at_stop}
use Rattle.st_journal.proofs.laws.a_stop_keeps_by_its_byte.Goals as goal

pub returns : goal.returns
returns c = λ old new acked x call byte result r armed some few calls later. ends_at_stop old new acked x call byte result r armed some few calls later
