use Rattle.st_lemmas.proofs.Words
use Words.{rules, ◌≡◌, ◌<◌, ◌≤◌, ◌+◌, ◌∙◌, ap, sym, subst, refl, take, length, arith}
use Rattle.std.specs.Io.KnownBytes.{Consumes}
use Rattle.st_node.specs.Runs.{MOST}
use Rattle.st_node.specs.Service.{room_for}
use Rattle.st_node.proofs.Streams.{Streams, at_end, begun, cut_off, end_breaks, piece_breaks, piece_more, piece_serves, room_falls, so_far, written_as}
use Rattle.st_node.proofs.service.serve.Goals as goal

pub pieces-init : goal.pieces-init
unfolding MOST
pieces-init g c = record {
  streams = subst (λ f. Streams (g.L.Source.left c.args.link.now) (g.L.Source.left c.args.link.now) (g.L.Sink.written c.args.link.now)
      (g.L.Sink.written c.args.link.now) (g.C.Clock.readings c.args.clock.now) (g.C.Clock.readings c.args.clock.now) c.args.node.now MOST c.args.node.now f)
      (sym c.new-reader.ensures)
      (begun (g.L.Source.left c.args.link.now) (g.L.Sink.written c.args.link.now) (g.C.Clock.readings c.args.clock.now) c.args.node.now);
  room = c.requires.room;
  still = refl;
  names = refl;
}

pub returns-in_default-clause-run : goal.returns-in_default-clause-run
returns-in_default-clause-run g c =
    so_far (g.L.Source.left c.args.link.now) (g.L.Source.left c.pieces.link) (g.L.Sink.written c.args.link.now) (g.L.Sink.written c.receive.new.self)
    (g.C.Clock.readings c.args.clock.now) (g.C.Clock.readings c.pieces.clock) c.args.node.now c.pieces.left c.pieces.node c.pieces.reader
    (written_as (g.L.Source.left c.args.link.now) (g.L.Source.left c.pieces.link) (g.L.Sink.written c.args.link.now) (g.L.Sink.written c.pieces.link)
    (g.L.Sink.written c.receive.new.self) (g.C.Clock.readings c.args.clock.now) (g.C.Clock.readings c.pieces.clock) c.args.node.now c.pieces.left c.pieces.node
    c.pieces.reader c.receive.ensures.written c.pieces.invariant.streams)

pub returns-in_default-clause-breaks : goal.returns-in_default-clause-breaks
returns-in_default-clause-breaks g c =
    cut_off (g.L.Source.left c.args.link.now) (g.L.Source.left c.pieces.link) (g.L.Source.left c.receive.new.self) (g.L.Sink.written c.args.link.now)
    (g.L.Sink.written c.receive.new.self)
    (g.C.Clock.readings c.args.clock.now) (g.C.Clock.readings c.pieces.clock) c.args.node.now c.pieces.left c.pieces.node c.pieces.reader
    (written_as (g.L.Source.left c.args.link.now) (g.L.Source.left c.pieces.link) (g.L.Sink.written c.args.link.now) (g.L.Sink.written c.pieces.link)
    (g.L.Sink.written c.receive.new.self) (g.C.Clock.readings c.args.clock.now) (g.C.Clock.readings c.pieces.clock) c.args.node.now c.pieces.left c.pieces.node
    c.pieces.reader c.receive.ensures.written c.pieces.invariant.streams)
    c.in_default.ensures.bytes

pub returns-then-n-eq0-clause-run : goal.returns-then-n-eq0-clause-run
returns-then-n-eq0-clause-run g c =
    at_end c.finish.result (g.L.Source.left c.args.link.now) (g.L.Source.left c.pieces.link) (g.L.Source.left c.receive.new.self) (g.L.Sink.written c.args.link.now)
    (g.L.Sink.written c.receive.new.self)
    (g.C.Clock.readings c.args.clock.now) (g.C.Clock.readings c.pieces.clock) c.args.node.now c.pieces.left c.pieces.node c.pieces.reader (take c.in-Ok.n c.receive.new.room)
    (written_as (g.L.Source.left c.args.link.now) (g.L.Source.left c.pieces.link) (g.L.Sink.written c.args.link.now) (g.L.Sink.written c.pieces.link)
    (g.L.Sink.written c.receive.new.self) (g.C.Clock.readings c.args.clock.now) (g.C.Clock.readings c.pieces.clock) c.args.node.now c.pieces.left c.pieces.node
    c.pieces.reader c.receive.ensures.written c.pieces.invariant.streams)
    c.in-Ok.ensures.bytes.0 (ap (λ k. take k c.receive.new.room) c.if-n-eq0.true) (search rules) c.finish.ensures

pub pieces-smaller : goal.pieces-smaller
pieces-smaller g c =
    let some : 0 < c.in-Ok.n = omega (arith, c.if-n-eq0.false) in
    let size : c.in-Ok.n ≡ length (take c.in-Ok.n c.receive.new.room) = c.in-Ok.ensures.bound.1 in
    room_falls c.pieces.left c.serve_piece.new.left c.pieces.reader c.serve_piece.new.reader c.in-Ok.n
    c.pieces.invariant.streams.idle c.in-Ok-serve_piece.ensures.piece.idle some
    (subst (λ n. length c.pieces.reader.rest + n + room_for c.serve_piece.new.left ≤ length c.serve_piece.new.reader.rest + room_for c.pieces.left) (sym size)
    c.in-Ok-serve_piece.ensures.few)

pub pieces-preserved : goal.pieces-preserved
pieces-preserved g c = record {
  streams = piece_more (g.L.Source.left c.args.link.now) (g.L.Source.left c.pieces.link) (g.L.Source.left c.serve_piece.new.link) (g.L.Sink.written c.args.link.now)
      (g.L.Sink.written c.receive.new.self) (g.L.Sink.written c.serve_piece.new.link)
      (g.C.Clock.readings c.args.clock.now) (g.C.Clock.readings c.pieces.clock) (g.C.Clock.readings c.serve_piece.new.clock) c.args.node.now
      (take c.in-Ok.n c.receive.new.room) c.pieces.left c.serve_piece.new.left c.pieces.node c.serve_piece.new.node c.pieces.reader c.serve_piece.new.reader
      (written_as (g.L.Source.left c.args.link.now) (g.L.Source.left c.pieces.link) (g.L.Sink.written c.args.link.now) (g.L.Sink.written c.pieces.link)
      (g.L.Sink.written c.receive.new.self) (g.C.Clock.readings c.args.clock.now) (g.C.Clock.readings c.pieces.clock) c.args.node.now c.pieces.left c.pieces.node
      c.pieces.reader c.receive.ensures.written c.pieces.invariant.streams)
      (subst (λ x. Consumes (g.L.Source.left c.pieces.link) x (take c.in-Ok.n c.receive.new.room)) (sym c.in-Ok-serve_piece.ensures.left) c.in-Ok.ensures.bytes.0) c.in-Ok-serve_piece.ensures.piece;
  room = c.in-Ok-serve_piece.ensures.room;
  still = c.in-Ok-serve_piece.ensures.causes ∙ c.in-Ok.ensures.cause.still ∙ c.pieces.invariant.still;
  names = c.serve_piece.ensures.names ∙ c.receive.ensures.names ∙ c.pieces.invariant.names;
}

pub returns-in-Err-clause-run : goal.returns-in-Err-clause-run
returns-in-Err-clause-run g c =
    piece_serves c.in-Err.stop (g.L.Source.left c.args.link.now) (g.L.Source.left c.pieces.link) (g.L.Source.left c.serve_piece.new.link) (g.L.Sink.written c.args.link.now)
    (g.L.Sink.written c.receive.new.self) (g.L.Sink.written c.serve_piece.new.link)
    (g.C.Clock.readings c.args.clock.now) (g.C.Clock.readings c.pieces.clock) (g.C.Clock.readings c.serve_piece.new.clock) c.args.node.now
    (take c.in-Ok.n c.receive.new.room) c.pieces.left c.serve_piece.new.left c.pieces.node c.serve_piece.new.node c.pieces.reader c.serve_piece.new.reader
    (written_as (g.L.Source.left c.args.link.now) (g.L.Source.left c.pieces.link) (g.L.Sink.written c.args.link.now) (g.L.Sink.written c.pieces.link)
    (g.L.Sink.written c.receive.new.self) (g.C.Clock.readings c.args.clock.now) (g.C.Clock.readings c.pieces.clock) c.args.node.now c.pieces.left c.pieces.node
    c.pieces.reader c.receive.ensures.written c.pieces.invariant.streams)
    (subst (λ x. Consumes (g.L.Source.left c.pieces.link) x (take c.in-Ok.n c.receive.new.room)) (sym c.in-Err.ensures.left) c.in-Ok.ensures.bytes.0)
    c.in-Err.ensures.piece

pub returns-in-Err-clause-breaks : goal.returns-in-Err-clause-breaks
returns-in-Err-clause-breaks g c =
    piece_breaks c.in-Err.stop (g.L.Source.left c.args.link.now) (g.L.Source.left c.pieces.link) (g.L.Source.left c.serve_piece.new.link) (g.L.Sink.written c.args.link.now)
    (g.L.Sink.written c.receive.new.self) (g.L.Sink.written c.serve_piece.new.link)
    (g.C.Clock.readings c.args.clock.now) (g.C.Clock.readings c.pieces.clock) (g.C.Clock.readings c.serve_piece.new.clock) c.args.node.now
    (take c.in-Ok.n c.receive.new.room) c.pieces.left c.serve_piece.new.left c.pieces.node c.serve_piece.new.node c.pieces.reader c.serve_piece.new.reader
    (written_as (g.L.Source.left c.args.link.now) (g.L.Source.left c.pieces.link) (g.L.Sink.written c.args.link.now) (g.L.Sink.written c.pieces.link)
    (g.L.Sink.written c.receive.new.self) (g.C.Clock.readings c.args.clock.now) (g.C.Clock.readings c.pieces.clock) c.args.node.now c.pieces.left c.pieces.node
    c.pieces.reader c.receive.ensures.written c.pieces.invariant.streams)
    (subst (λ x. Consumes (g.L.Source.left c.pieces.link) x (take c.in-Ok.n c.receive.new.room)) (sym c.in-Err.ensures.left) c.in-Ok.ensures.bytes.0)
    c.in-Err.ensures.piece

pub returns-then-n-eq0-clause-breaks : goal.returns-then-n-eq0-clause-breaks
returns-then-n-eq0-clause-breaks g c =
    end_breaks c.finish.result (g.L.Source.left c.args.link.now) (g.L.Source.left c.receive.new.self) (g.L.Sink.written c.args.link.now) (g.L.Sink.written c.receive.new.self)
    (g.C.Clock.readings c.args.clock.now) (g.C.Clock.readings c.pieces.clock) c.args.node.now c.pieces.node c.pieces.reader.offset c.pieces.reader.rest c.finish.ensures
