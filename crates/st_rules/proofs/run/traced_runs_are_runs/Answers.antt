use Rattle.st_rules.proofs.Runs.{traced_is_run}
use Rattle.st_rules.proofs.run.traced_runs_are_runs.Goals as goal

pub returns : goal.returns
returns c = traced_is_run
