use Rattle.std.proofs.Common.{◌≡◌, ◌+◌, ◌-◌, ◌++◌}
use Rattle.st_generate_run.specs.Pieces.{Writes}
use Rattle.st_generate_run.specs.Turns.{IsReady, lines}
use Rattle.st_generate_run.proofs.schedule.write_events.Given as goal

abbrev pub invariant-loop-i : goal.invariant-loop-i
invariant-loop-i g l =
    record {
      ready : IsReady l.world;
      events : l.world.tally.events ≡ l.fn.world.tally.events + l._i;
      wrote : Writes (g.O.Sink.written l.fn.out) (g.O.Sink.written l.out) (l.fn.text.items ++ lines l.n l.fn.world l.fn.draws) (l.text.items ++ lines (l.n - l._i) l.world l.draws);
      still : g.O.Sink.faults l.out ≡ g.O.Sink.faults l.fn.out;
    }
