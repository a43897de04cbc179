use Rattle.st_schedule.proofs.PrintedLines.{read_as}
use Rattle.st_schedule.proofs.law.printed_lines_are_read_back.Goals as goal

pub returns : goal.returns
returns c = read_as
