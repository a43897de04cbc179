use Rattle.st_third_codec.proofs.ExactThird.{spelled_once}
use Rattle.st_third_codec.proofs.law.one_spelling.Goals as goal

pub returns-clause-bytes : goal.returns-clause-bytes
returns-clause-bytes c = spelled_once
