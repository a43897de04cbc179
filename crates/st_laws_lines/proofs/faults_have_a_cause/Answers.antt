use Rattle.st_laws_lines.proofs.Faults.{faults_law}
use Rattle.st_laws_lines.proofs.faults_have_a_cause.Goals as goal

pub returns : goal.returns
returns c = faults_law
