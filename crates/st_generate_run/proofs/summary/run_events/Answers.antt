use Rattle.std.proofs.Common.{◌∙◌, sym, arith}
use Rattle.st_generate_run.proofs.Turning.{run_last, run_next}
use Rattle.st_generate_run.proofs.summary.run_events.Goals as goal

pub loop-i-preserved : goal.loop-i-preserved
loop-i-preserved c =
    record {
      ready = c.in_ok-advance.ensures.ready;
      events = omega (arith, c.in_ok-advance.ensures.events, c.loop-i.invariant.events);
      run = sym (run_next c.loop-i._i c.args.n c.loop-i.world c.loop-i.draws c.advance.new.world c.advance.new.draws c.loop-i-test.true c.in_ok-advance.ensures.turn) ∙ c.loop-i.invariant.run;
    }

pub returns : goal.returns
returns c = sym (run_last c.loop-i._i c.args.n c.loop-i.world c.loop-i.draws c.loop-i-test.false) ∙ c.loop-i.invariant.run
