use Rattle.st_schedule.proofs.EventsAreRead.{spelled_is_read}
use Rattle.st_schedule.proofs.law.what_spells_an_event_is_read_so.Goals as goal

pub returns : goal.returns
returns c = spelled_is_read
