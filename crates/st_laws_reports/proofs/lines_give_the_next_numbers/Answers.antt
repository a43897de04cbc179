use Rattle.st_laws_reports.proofs.Numbering.{numbers_law}
use Rattle.st_laws_reports.proofs.lines_give_the_next_numbers.Goals as goal

pub returns : goal.returns
returns c = numbers_law
