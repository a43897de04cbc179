use Rattle.st_rules.proofs.Runs.{in_parts}
use Rattle.st_rules.proofs.run.runs_go_on_in_parts.Goals as goal

pub returns : goal.returns
returns c = in_parts
