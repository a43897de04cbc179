use Rattle.st_third_codec.proofs.ExactThird.{longer}
use Rattle.st_third_codec.proofs.law.bytes_that_follow.Goals as goal

pub returns : goal.returns
returns c = longer
