use Rattle.st_host_frames.proofs.Received.{received_again}
use Rattle.st_host_frames.proofs.law.frames_are_received.Goals as goal

pub returns : goal.returns
returns c = received_again
