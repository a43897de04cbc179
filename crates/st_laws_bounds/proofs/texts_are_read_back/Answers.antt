use Rattle.st_laws_bounds.proofs.Generated.ReadBack.{head_is_read, text_is_read}
use Rattle.st_laws_bounds.proofs.texts_are_read_back.Goals as goal

pub returns-clause-head : goal.returns-clause-head
returns-clause-head c = head_is_read c.events_have_lines.ensures.head

pub returns-clause-text : goal.returns-clause-text
returns-clause-text c = text_is_read c.events_have_lines.ensures.head c.generated_events_have_lines.ensures c.schedules_are_long_enough.ensures.length
