use Rattle.st_generate.proofs.Full.{sent_is_bounded}
use Rattle.st_generate.proofs.messages_are_few.Goals as goal

pub returns : goal.returns
returns c = sent_is_bounded
