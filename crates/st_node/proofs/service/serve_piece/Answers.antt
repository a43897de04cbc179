use Rattle.st_lemmas.proofs.Words
use Words.{subst}
use Rattle.st_link.specs.Prefixes.{AppendsPrefix}
use Rattle.st_codec.specs.Frames.{fed}
use Rattle.st_node.proofs.Turns.{piece_torn}
use Rattle.st_node.proofs.service.serve_piece.Goals as goal

pub returns-clause-piece : goal.returns-clause-piece
returns-clause-piece g c =
    piece_torn c.handle_frames-handled.result c.args.left.now c.args.node.now (fed c.args.reader.now c.args.piece.now) c.feed.new.self c.new-text.result.items
    (g.C.Clock.readings c.args.clock.now) (g.C.Clock.readings c.handle_frames-handled.new.clock) (g.L.Sink.written c.args.link.now) (g.L.Sink.written c.send_all.new.link)
    c.handle_frames-handled.new.left c.handle_frames-handled.new.node c.handle_frames-handled.new.reader c.handle_frames-handled.new.text.items
    c.in_ok-feed.ensures.fed c.new-text.ensures.items
    c.handle_frames-handled.ensures.goes c.handle_frames-handled.ensures.stops c.handle_frames-handled.ensures.idle (subst (AppendsPrefix (g.L.Sink.written c.args.link.now) (g.L.Sink.written c.send_all.new.link)) c.deref.ensures.value c.in-Err.ensures.failed)
    (c.is_memory.ensures.no c.if-is_memory.false)
