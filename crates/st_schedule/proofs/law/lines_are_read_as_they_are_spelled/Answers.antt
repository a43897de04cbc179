use Rattle.st_schedule.proofs.LinesAsSpelled.{line_is_spelled, line_is_read}
use Rattle.st_schedule.proofs.law.lines_are_read_as_they_are_spelled.Goals as goal

pub returns : goal.returns
returns c = record { spelled = line_is_spelled; read = line_is_read }
