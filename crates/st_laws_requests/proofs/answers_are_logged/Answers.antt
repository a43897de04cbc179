use Rattle.st_laws_requests.proofs.Cuts.Law.{runs_log_answers}
use Rattle.st_laws_requests.proofs.answers_are_logged.Goals as goal

pub returns : goal.returns
returns c = runs_log_answers
