use Rattle.st_generate.proofs.Runs.{begins_with_a_head, has_length}
use Rattle.st_generate.proofs.schedules_are_long_enough.Goals as goal

pub returns-clause-length : goal.returns-clause-length
returns-clause-length c = has_length

pub returns-clause-head : goal.returns-clause-head
returns-clause-head c = begins_with_a_head
