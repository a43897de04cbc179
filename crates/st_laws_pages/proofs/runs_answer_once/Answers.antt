use Rattle.st_laws_pages.proofs.Asks.Law.{once_law, written_law}
use Rattle.st_laws_pages.proofs.runs_answer_once.Goals as goal

pub returns-clause-once : goal.returns-clause-once
returns-clause-once c = once_law

pub returns-clause-written : goal.returns-clause-written
returns-clause-written c = written_law
