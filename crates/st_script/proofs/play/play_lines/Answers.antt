use Rattle.std.proofs.Common.{ℕ, ◌+◌, ◌∙◌, refl, arith}
use Rattle.st_script.proofs.Outcomes.{end_reports, event_reports, memory_reports, next_line, one_more, starts_ahead, stops_reports, weaker}
use Rattle.st_script.proofs.play.play_lines.Goals as goal

pub lines-init : goal.lines-init
lines-init g c = record {
  goes = λ s h bytes known. starts_ahead (λ t. g.S.Script.stands 0 t c.args.script.now) g.S.Script.rules c.args.first (g.O.Sink.written c.args.out.now) _ bytes s h known;
  few = omega arith;
  reads = refl;
  still = refl;
}

pub returns-in-Err-clause-exact : goal.returns-in-Err-clause-exact
returns-in-Err-clause-exact g c = λ s h bytes known.
    let ahead = c.lines.invariant.goes s h bytes known in
    let read = rw c.in-Ok-Some.field-0-is at c.in-Ok-Some.ensures.exact in
    let said = read ahead.rest ahead.known in
    let line = next_line _ _ _ _ _ _ ahead.rest said.line said.rest _ said.lines ahead.goes in
    let told = c.in-Err.ensures.exact line.goes.state line.goes.stands in
    event_reports _ (λ t. Unit {0}) g.S.Script.rules c.lines.done c.args.first _ _ _ said.line said.rest _ c.in-Ok-Some.event c.in-Err.fault said.read_so line told.0 told.1

pub returns-in-Ok-None-clause-exact : goal.returns-in-Ok-None-clause-exact
returns-in-Ok-None-clause-exact g c = λ s h bytes known.
    let ahead = c.lines.invariant.goes s h bytes known in
    let read = rw c.in-Ok-None.field-0-is at c.in-Ok-None.ensures.exact in
    let said = read ahead.rest ahead.known in
    let line = next_line _ _ _ _ _ _ ahead.rest said.line said.rest _ said.lines ahead.goes in
    let holds : g.S.Script.State → Type 0 = λ t. g.S.Script.stands c.lines.done t c.lines.script in
    let after : g.S.Script.State → Type 0 = λ t. (n : ℕ) × g.S.Script.stands n t c.lines.script in
    end_reports _ after g.S.Script.rules c.lines.done c.args.first _ _ _ said.line said.rest _ c.conclude.result said.read_so line
    (weaker holds after c.conclude.result _ _ _ (λ t k. (c.lines.done, k)) (c.conclude.ensures.exact line.goes.state line.goes.stands said.rest said.known))

pub returns-in-Err-Malformed-clause-exact : goal.returns-in-Err-Malformed-clause-exact
returns-in-Err-Malformed-clause-exact g c = λ s h bytes known.
    let ahead = c.lines.invariant.goes s h bytes known in
    let stops = rw c.in-Err-Malformed.field-0-is at c.in-Err-Malformed.ensures.exact in
    stops_reports _ (λ t. Unit {0}) g.S.Script.rules c.lines.done c.args.first _ _ _ ahead.rest _ c.refuse.result (stops ahead.rest ahead.known) ahead.goes c.refuse.ensures.exact

pub returns-in-Err-Read-clause-exact : goal.returns-in-Err-Read-clause-exact
returns-in-Err-Read-clause-exact g c = λ s h bytes known.
    memory_reports _ (λ t. Unit {0}) g.S.Script.rules c.lines.done c.args.first _ _ _ _ (c.lines.invariant.goes s h bytes known).goes

pub returns-in-Err-Memory-clause-exact : goal.returns-in-Err-Memory-clause-exact
returns-in-Err-Memory-clause-exact g c = λ s h bytes known.
    memory_reports _ (λ t. Unit {0}) g.S.Script.rules c.lines.done c.args.first _ _ _ _ (c.lines.invariant.goes s h bytes known).goes

pub lines-preserved : goal.lines-preserved
lines-preserved g c = record {
  goes = λ s h bytes known.
      let ahead = c.lines.invariant.goes s h bytes known in
      let read = rw c.in-Ok-Some.field-0-is at c.in-Ok-Some.ensures.exact in
      let said = read ahead.rest ahead.known in
      let line = next_line _ _ _ _ _ _ ahead.rest said.line said.rest _ said.lines ahead.goes in
      record {
        rest = said.rest;
        known = said.known;
        goes = one_more _ (λ t. g.S.Script.stands (c.lines.done + 1) t c.play_event.new.script) g.S.Script.rules c.lines.done c.args.first _ _ (g.O.Sink.written c.play_event.new.out)
            said.line said.rest _ c.in-Ok-Some.event said.read_so line
            (c.in-Ok.ensures.exact line.goes.state line.goes.stands) (c.in-Ok.ensures.stands line.goes.state line.goes.stands);
      };
  few = (let few = rw c.in-Ok-Some.field-0-is at c.in-Ok-Some.ensures.few in omega (arith, few));
  reads = c.in-Ok-Some.ensures.causes ∙ c.lines.invariant.reads;
  still = c.in-Ok.ensures.cause ∙ c.lines.invariant.still;
}
