use Rattle.std.proofs.Common.{◌∙◌, ◌-◌, arith}
use Rattle.st_rules.specs.Generator.{chosen}
use Rattle.st_generate.specs.GeneratedText.{event_line}
use Rattle.st_generate_run.specs.Turns.{lines}
use Rattle.st_generate_run.proofs.Fronts.{line_cut, line_next, no_line, on_err}
use Rattle.st_generate_run.proofs.Turning.{lines_first, lines_last, lines_next}
use Rattle.st_generate_run.proofs.schedule.write_events.Goals as goal

pub returns-in_err-write_next-clause-front : goal.returns-in_err-write_next-clause-front
returns-in_err-write_next-clause-front g c =
    let w = c.loop-i.world in
    let x = c.loop-i.draws in
    on_err c.from_residual.result _
    (line_cut (g.O.Sink.written c.args.out.now) (g.O.Sink.written c.loop-i.out) (g.O.Sink.written c.write_next.new.out) _ c.loop-i.text.items (event_line (chosen w x).0) _ (lines (c.args.n - c.loop-i._i) w x)
    (lines_first c.loop-i._i c.args.n w x c.loop-i-test.true) c.loop-i.invariant.wrote c.in_err-write_next.ensures.front)

pub loop-i-preserved : goal.loop-i-preserved
loop-i-preserved g c =
    let w = c.loop-i.world in
    let x = c.loop-i.draws in
    record {
      ready = c.in_ok-write_next.ensures.ready;
      events = omega (arith, c.in_ok-write_next.ensures.events, c.loop-i.invariant.events);
      wrote =
          line_next (g.O.Sink.written c.args.out.now) (g.O.Sink.written c.loop-i.out) (g.O.Sink.written c.write_next.new.out) _ c.loop-i.text.items (event_line (chosen w x).0) _ (lines (c.args.n - c.loop-i._i) w x) c.write_next.new.text.items
          (lines_next c.loop-i._i c.args.n w x c.write_next.new.world c.write_next.new.draws c.loop-i-test.true c.in_ok-write_next.ensures.turn) c.loop-i.invariant.wrote c.in_ok-write_next.ensures.wrote;
      still = c.in_ok-write_next.ensures.causes ∙ c.loop-i.invariant.still;
    }

pub returns-clause-wrote : goal.returns-clause-wrote
returns-clause-wrote g c =
    no_line (g.O.Sink.written c.args.out.now) (g.O.Sink.written c.loop-i.out) _ c.loop-i.text.items (lines (c.args.n - c.loop-i._i) c.loop-i.world c.loop-i.draws)
    (lines_last c.loop-i._i c.args.n c.loop-i.world c.loop-i.draws c.loop-i-test.false) c.loop-i.invariant.wrote
