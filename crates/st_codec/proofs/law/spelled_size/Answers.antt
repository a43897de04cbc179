use Rattle.st_codec.proofs.Sized.{spelling_length}
use Rattle.st_codec.proofs.law.spelled_size.Goals as goal

pub returns : goal.returns
returns c = spelling_length
