use Rattle.st_laws_limits.proofs.FaultRuns.{every_other_fault_has_a_cause}
use Rattle.st_laws_limits.proofs.every_other_fault_has_a_cause.Goals as goal

pub returns : goal.returns
returns c = every_other_fault_has_a_cause
