use Rattle.std.proofs.Common.{◌≡◌, ◌-◌, ◌∙◌, arith, sym, Err}
use Rattle.st_rules.specs.Events.{world_step}
use Rattle.st_replay.proofs.Steps.{event_goes, event_stops, not_refused, refused_step}
use Rattle.st_replay.proofs.play.play_event.Goals as goal

pub returns-in-Some-clause-stops : goal.returns-in-Some-clause-stops
returns-in-Some-clause-stops c = λ rest.
    event_stops c.args.text.now.items c.args.line c.args.world.now c.in-Some.refusal c.args.event.now rest
    (refused_step c.args.world.now c.args.event.now c.in-Some.refusal (sym c.refusal.ensures ∙ c.in-Some.is)) c.requires.number

pub returns-in_ok-put_lines-in-Ok-clause-goes : goal.returns-in_ok-put_lines-in-Ok-clause-goes
returns-in_ok-put_lines-in-Ok-clause-goes c = λ rest.
    event_goes c.args.text.now.items c.put_lines.new.out.items (c.args.line - 1) c.args.world.now c.run.new.self c.in-Ok.observed.items c.args.event.now rest
    c.in-Ok.ensures.machine c.in-Ok.ensures.events (omega (arith, c.requires.number)) (rw c.as_slice.ensures.value at c.in_ok-put_lines-in-Ok.ensures)

pub unreachable-requires : goal.unreachable-requires
unreachable-requires c =
    let m : (world_step c.args.world.now c.args.event.now ≡ Err c.in-Err-Refused.field-0-0) ×
    (c.run.new.self ≡ c.args.world.now) = rw c.in-Err-Refused.field-0-is at c.in-Err-Refused.ensures.machine in
    not_refused c.args.world.now c.args.event.now c.in-Err-Refused.field-0-0 (sym c.refusal.ensures ∙ c.in_default.is) m.0
