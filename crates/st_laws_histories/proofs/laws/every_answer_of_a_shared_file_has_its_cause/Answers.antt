use Rattle.st_laws_histories.proofs.SharedHistories.{every_answer}
use Rattle.st_laws_histories.proofs.laws.every_answer_of_a_shared_file_has_its_cause.Goals as goal

pub returns : goal.returns
returns c = every_answer
