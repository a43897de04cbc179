use Rattle.st_laws_requests.proofs.Cuts.Names.{names_answer_truly}
use Rattle.st_laws_requests.proofs.names_answer_truly.Goals as goal

pub returns : goal.returns
returns c = names_answer_truly
