use Rattle.st_host_frames.proofs.Received.{front_of_message}
use Rattle.st_host_frames.proofs.law.fronts_are_of_messages.Goals as goal

pub returns : goal.returns
returns c = front_of_message
