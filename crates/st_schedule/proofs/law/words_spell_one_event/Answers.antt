use Rattle.st_schedule.proofs.EventsAreRead.{one_event}
use Rattle.st_schedule.proofs.law.words_spell_one_event.Goals as goal

pub returns : goal.returns
returns c = one_event
