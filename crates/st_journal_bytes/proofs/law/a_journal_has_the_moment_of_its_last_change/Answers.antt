use Rattle.st_journal_bytes.proofs.Moments.{last_of, plain_area}
use Rattle.st_journal_bytes.proofs.law.a_journal_has_the_moment_of_its_last_change.Goals as goal

pub returns-clause-area : goal.returns-clause-area
returns-clause-area g c = λ f bytes s xs sum a. plain_area f bytes s xs sum a

pub returns-clause-moment : goal.returns-clause-moment
returns-clause-moment g c = λ f s u xs e. last_of f s u xs e
