-- The first `done` bytes were written, and what is left, the names and the count have stayed.
use Rattle.std.proofs.Common.{◌≡◌, ◌≤◌, ◌-◌, length, take}
use Rattle.std.specs.Io.KnownBytes.{Appends}
use Rattle.st_link.proofs.whole_texts.send_all.Given as goal

abbrev pub invariant-loop-done : goal.invariant-loop-done
invariant-loop-done g l = record {
  in_range : l.done ≤ length l.bytes;
  written : Appends (g.L.Sink.written l.fn.link) (g.L.Sink.written l.link) (take l.done l.bytes);
  kept : g.L.Source.left l.link ≡ g.L.Source.left l.fn.link;
  names : g.L.Link.attached l.link ≡ g.L.Link.attached l.fn.link;
  still : g.L.Source.faults l.link ≡ g.L.Source.faults l.fn.link;
}

abbrev pub decreases-loop-done : goal.decreases-loop-done
decreases-loop-done g l = length l.bytes - l.done
