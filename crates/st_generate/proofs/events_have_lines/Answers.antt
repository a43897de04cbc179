use Rattle.st_generate.proofs.Runs.{each_has_a_line, head_has_a_line}
use Rattle.st_generate.proofs.events_have_lines.Goals as goal

pub returns-clause-head : goal.returns-clause-head
returns-clause-head c = head_has_a_line

pub returns-clause-events : goal.returns-clause-events
returns-clause-events c = each_has_a_line
