use Rattle.std.proofs.Common.{◌≡◌, ◌+◌, ◌-◌}
use Rattle.st_rules.specs.Generator.{generated}
use Rattle.st_rules.specs.Run.{run}
use Rattle.st_generate_run.specs.Turns.{IsReady}
use Rattle.st_generate_run.proofs.summary.run_events.Given as goal

abbrev pub invariant-loop-i : goal.invariant-loop-i
invariant-loop-i l =
    record {
      ready : IsReady l.world;
      events : l.world.tally.events ≡ l.fn.world.tally.events + l._i;
      run : (run (generated (l.n - l._i) l.world l.draws) l.world).world ≡ (run (generated l.n l.fn.world l.fn.draws) l.fn.world).world;
    }
