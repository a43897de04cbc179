use Rattle.st_client_frames.proofs.ReplyFrames.{frame_condemn, frame_count_reply, frame_demand_as, frame_end_request, frame_note_lease, frame_observe}
use Rattle.st_client_frames.proofs.ReplyFrames.{frame_other_epoch, frame_refuse_file}
use Rattle.st_client_frames.proofs.replies_only_say_more.Goals as goal

pub returns-clause-lease : goal.returns-clause-lease
returns-clause-lease c l xs t = frame_note_lease xs t l

pub returns-clause-condemn : goal.returns-clause-condemn
returns-clause-condemn c s xs t = frame_condemn xs t s

pub returns-clause-epoch : goal.returns-clause-epoch
returns-clause-epoch c s epoch body xs t = frame_other_epoch xs t s epoch body

pub returns-clause-refuse : goal.returns-clause-refuse
returns-clause-refuse c a file xs t = frame_refuse_file xs t a file

pub returns-clause-end : goal.returns-clause-end
returns-clause-end c s stamp xs t = frame_end_request xs t s stamp

pub returns-clause-count : goal.returns-clause-count
returns-clause-count c s now stamp reply asked xs t = frame_count_reply xs t s now stamp reply asked

pub returns-clause-demand : goal.returns-clause-demand
returns-clause-demand c s ino g a xs t = frame_demand_as xs t s ino g a

pub returns-clause-observe : goal.returns-clause-observe
returns-clause-observe c s ino g xs t = frame_observe xs t s ino g
