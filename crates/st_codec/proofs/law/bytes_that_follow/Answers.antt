use Rattle.st_codec.proofs.ExactMessage.{longer}
use Rattle.st_codec.proofs.law.bytes_that_follow.Goals as goal

pub returns : goal.returns
returns c = longer
