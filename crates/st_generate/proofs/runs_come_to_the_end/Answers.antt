use Rattle.st_generate.proofs.Runs.{is_reported_whole, runs_to_the_end}
use Rattle.st_generate.proofs.runs_come_to_the_end.Goals as goal

pub returns-clause-end : goal.returns-clause-end
returns-clause-end c = runs_to_the_end

pub returns-clause-told : goal.returns-clause-told
returns-clause-told c = is_reported_whole
