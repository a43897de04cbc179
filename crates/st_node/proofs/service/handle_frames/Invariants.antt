-- The frames so far were handled.
use Rattle.st_lemmas.proofs.Words
use Words.{◌≤◌, ◌+◌, length}
use Rattle.st_node.specs.Room.{HasRoomFor}
use Rattle.st_node.specs.Service.{Carries, GoesOn, room_for}
use Rattle.st_node.proofs.service.handle_frames.Given as goal

abbrev pub invariant-frames : goal.invariant-frames
invariant-frames g l = record {
  goes : Carries (g.C.Clock.readings l.fn.clock) (g.C.Clock.readings l.clock)
      (GoesOn l.fn.left l.fn.node l.fn.reader l.fn.text.items l.left l.node l.reader l.text.items);
  room : HasRoomFor l.left l.node;
  few : length l.fn.reader.rest + room_for l.left ≤ length l.reader.rest + room_for l.fn.left;
}

abbrev pub decreases-frames : goal.decreases-frames
decreases-frames g l = l.left
