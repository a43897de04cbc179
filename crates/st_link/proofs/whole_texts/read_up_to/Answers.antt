use Rattle.std.proofs.Common.{rules, ◌++◌, ◌<◌, length, take}
use Rattle.std.proofs.KnownBytes.{Consumes-trans}
use Rattle.st_link.specs.Prefixes.{LosesFront}
use Rattle.st_link.proofs.Pieces.{some_read}
use Rattle.st_link.proofs.whole_texts.read_up_to.Goals as goal

-- what was read before, and the bytes for which there was no memory
pub returns-in_err-extend_from_slice-clause-lost :
    goal.returns-in_err-extend_from_slice-clause-lost
returns-in_err-extend_from_slice-clause-lost g c =
    let lost : LosesFront (g.S.Source.left c.args.source.now) (g.S.Source.left c.take.new.self) =
    (c.reads.bytes.items ++ take c.in_ok-n.n c.take.new.room, Consumes-trans _ (g.S.Source.left c.reads.source) _ _ _ c.reads.invariant.taken c.in_ok-n.ensures.bytes.0) in
    search rules

pub returns-in_err-extend_from_slice-clause-memory :
    goal.returns-in_err-extend_from_slice-clause-memory
returns-in_err-extend_from_slice-clause-memory g c = λ _.
    let read = c.reads.bytes.items in
    let piece = take c.in_ok-n.n c.take.new.room in
    let some : 0 < length (read ++ piece) = some_read read c.take.new.room c.in_ok-n.n c.in_ok-n.ensures.bound.0 c.if-n-eq0.false in
    (read ++ piece, some, Consumes-trans _ (g.S.Source.left c.reads.source) _ _ _ c.reads.invariant.taken c.in_ok-n.ensures.bytes.0)
