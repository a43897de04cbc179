use Rattle.st_runs.proofs.RunReports.{report_of_run}
use Rattle.st_runs.proofs.reports_are_those_of_runs.Goals as goal

pub returns : goal.returns
returns c = λ es w. report_of_run es w
