use Rattle.st_codec.proofs.ExactMessage.{spelled_once}
use Rattle.st_codec.proofs.law.one_spelling.Goals as goal

pub returns-clause-bytes : goal.returns-clause-bytes
returns-clause-bytes c = spelled_once
