use Rattle.st_stable_file.proofs.Formats.{can_be_opened, opened_after}
use Rattle.st_stable_file.proofs.law.a_stable_file_outlives_crashes.Goals as goal

pub returns-clause-area : goal.returns-clause-area
returns-clause-area g c = λ s f i bytes start state changes stands leads. can_be_opened s f i bytes start state changes stands leads

pub returns-clause-file : goal.returns-clause-file
returns-clause-file g c = λ s f i start header k left last r l e. opened_after s f i start header k left last r l e
