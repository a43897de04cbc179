use Rattle.st_client_frames.proofs.EndFrames.{frame_end_operation, frame_finish_as, frame_mark_failed, frame_take_ask}
use Rattle.st_client_frames.proofs.inputs_only_say_more.Goals as goal

pub returns-clause-ask : goal.returns-clause-ask
returns-clause-ask c op ask xs t = frame_take_ask xs t op ask

pub returns-clause-mark : goal.returns-clause-mark
returns-clause-mark c q version xs t = frame_mark_failed xs t q version

pub returns-clause-finish : goal.returns-clause-finish
returns-clause-finish c q block ended xs t = frame_finish_as xs t q block ended

pub returns-clause-end : goal.returns-clause-end
returns-clause-end c s o xs t = frame_end_operation xs t s o
