-- What was taken was handled, and what came of it was written.
use Rattle.st_lemmas.proofs.Words
use Words.{◌≡◌, ◌-◌, length}
use Rattle.st_node.specs.Room.{HasRoomFor}
use Rattle.st_node.specs.Service.{room_for}
use Rattle.st_node.proofs.Streams.{Streams}
use Rattle.st_node.proofs.service.serve.Given as goal

abbrev pub invariant-pieces : goal.invariant-pieces
invariant-pieces g l = record {
  streams : Streams (g.L.Source.left l.fn.link) (g.L.Source.left l.link) (g.L.Sink.written l.fn.link) (g.L.Sink.written l.link)
      (g.C.Clock.readings l.fn.clock) (g.C.Clock.readings l.clock) l.fn.node l.left l.node l.reader;
  room : HasRoomFor l.left l.node;
  still : g.L.Source.faults l.link ≡ g.L.Source.faults l.fn.link;
  names : g.L.Link.attached l.link ≡ g.L.Link.attached l.fn.link;
}

abbrev pub decreases-pieces : goal.decreases-pieces
decreases-pieces g l = room_for l.left - length l.reader.rest
