use Rattle.std.proofs.Common.{◌≡◌, ◌-◌, [], length}
use Rattle.st_replay.specs.States.{needs}
use Rattle.st_replay.specs.Streams.{Streams}
use Rattle.st_replay.proofs.source.replay.Given as goal

abbrev pub invariant-pieces : goal.invariant-pieces
invariant-pieces g l = record {
  streams : Streams (g.I.Source.left l.fn.input) (g.I.Source.left l.input) (g.O.Sink.written l.fn.out) (g.O.Sink.written l.out)
      l.player.text.items l.player.world l.player.reader l.player.line l.held.items;
  empty : l.player.text.items ≡ [];
  reads : g.I.Source.faults l.input ≡ g.I.Source.faults l.fn.input;
  writes : g.O.Sink.faults l.out ≡ g.O.Sink.faults l.fn.out;
}

abbrev pub decreases-pieces : goal.decreases-pieces
decreases-pieces g l = needs l.player.reader - length l.held.items
