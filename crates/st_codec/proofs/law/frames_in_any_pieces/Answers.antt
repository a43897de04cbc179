use Rattle.st_codec.proofs.Streams.{any_pieces, one_reading, gives, ends}
use Rattle.st_codec.proofs.law.frames_in_any_pieces.Goals as goal

pub returns-clause-reads : goal.returns-clause-reads
returns-clause-reads c = any_pieces

pub returns-clause-once : goal.returns-clause-once
returns-clause-once c = one_reading

pub returns-clause-ends : goal.returns-clause-ends
returns-clause-ends c = ends

pub returns-clause-gives : goal.returns-clause-gives
returns-clause-gives c = gives
