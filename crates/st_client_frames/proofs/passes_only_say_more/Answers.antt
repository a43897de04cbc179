use Rattle.st_client_frames.proofs.PassFrames.{frame_change, frame_fetch, frame_hello, frame_quiesce, frame_read, frame_reduce, frame_sync, frame_write_out}
use Rattle.st_client_frames.proofs.RequestFrames.{frame_ask_for, frame_requests}
use Rattle.st_client_frames.proofs.passes_only_say_more.Goals as goal

pub returns-clause-sync : goal.returns-clause-sync
returns-clause-sync c o f xs t = frame_sync xs t o f

pub returns-clause-quiesce : goal.returns-clause-quiesce
returns-clause-quiesce c o xs t = frame_quiesce xs t o

pub returns-clause-change : goal.returns-clause-change
returns-clause-change c o f p n ps xs t = frame_change xs t o f p n ps

pub returns-clause-fetch : goal.returns-clause-fetch
returns-clause-fetch c o f p xs t = frame_fetch xs t o f p

pub returns-clause-read : goal.returns-clause-read
returns-clause-read c s o f p xs t = frame_read xs t s o f p

pub returns-clause-reduce : goal.returns-clause-reduce
returns-clause-reduce c s ino r xs t = frame_reduce xs t s ino r

pub returns-clause-write_out : goal.returns-clause-write_out
returns-clause-write_out c d xs t = frame_write_out xs t d

pub returns-clause-hello : goal.returns-clause-hello
returns-clause-hello c now xs t = frame_hello xs t now

pub returns-clause-ask_for : goal.returns-clause-ask_for
returns-clause-ask_for c s now a xs t = frame_ask_for xs t s now a

pub returns-clause-requests : goal.returns-clause-requests
returns-clause-requests c now tick xs t = frame_requests xs t now tick
