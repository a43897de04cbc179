use Rattle.st_laws_lines.proofs.Law.{counts_law}
use Rattle.st_laws_lines.proofs.counts_are_true.Goals as goal

pub returns : goal.returns
returns c = counts_law
