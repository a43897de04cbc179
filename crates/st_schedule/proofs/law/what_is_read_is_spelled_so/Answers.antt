use Rattle.st_schedule.proofs.EventsWereWritten.{read_is_spelled, end_is_spelled}
use Rattle.st_schedule.proofs.law.what_is_read_is_spelled_so.Goals as goal

pub returns : goal.returns
returns c = record { event = read_is_spelled; end = end_is_spelled }
