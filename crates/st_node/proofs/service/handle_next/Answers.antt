use Rattle.st_lemmas.proofs.Words
use Words.{◌≡◌, ◌+◌, ◌-◌, ◌<◌, sym, subst, arith}
use Rattle.st_codec.specs.Frames.{next}
use Rattle.st_node.specs.Room.{HasRoomFor}
use Rattle.st_node.proofs.Runs.{handled_goes}
use Rattle.st_node.proofs.Turns.{frame_few, given_err, given_none, given_ok, nothing_few, nothing_goes, nothing_idle, stop_frame, stop_full}
use Rattle.st_node.proofs.service.handle_next.Goals as goal

pub returns-then-held-gt0-clause-stops : goal.returns-then-held-gt0-clause-stops
returns-then-held-gt0-clause-stops g c =
    stop_full (g.C.Clock.readings c.args.clock.now) c.args.left.now c.args.node.now c.args.reader.now c.args.text.now.items c.if-left-eq0.true
    (subst (λ n. 0 < n) c.held.ensures c.if-held-gt0.true)

pub returns-in_ok-handle-in-Ok-Some-Ok-clause-goes :
    goal.returns-in_ok-handle-in-Ok-Some-Ok-clause-goes
returns-in_ok-handle-in-Ok-Some-Ok-clause-goes g c =
    handled_goes c.args.left.now c.args.node.now c.handle.new.self c.args.reader.now c.next.new.self c.in-Ok-Some-Ok.message c.args.text.now.items
    c.handle.new.out.items c.now-now.result (g.C.Clock.readings c.args.clock.now) (g.C.Clock.readings c.now-now.new.self)
    (omega (arith, c.if-left-eq0.false)) (sym (given_ok c.next.new.self c.in-Ok-Some-Ok.message c.in-Ok-Some-Ok.field-0 c.in-Ok-Some-Ok.field-0-0 (next c.args.reader.now)
    c.in-Ok-Some-Ok.field-0-is c.in-Ok-Some-Ok.field-0-0-is c.in-Ok-Some-Ok.ensures.answer)) c.now-now.ensures.told
    c.in_ok-handle-in-Ok-Some-Ok.ensures.node c.in_ok-handle-in-Ok-Some-Ok.ensures.out

pub returns-in_ok-handle-in-Ok-Some-Ok-clause-room :
    goal.returns-in_ok-handle-in-Ok-Some-Ok-clause-room
returns-in_ok-handle-in-Ok-Some-Ok-clause-room g c =
    let one : c.args.left.now ≡ c.args.left.now - 1 + 1 = omega (arith, c.if-left-eq0.false) in
    c.in_ok-handle-in-Ok-Some-Ok.ensures.room (c.args.left.now - 1) (subst (λ k. HasRoomFor k c.args.node.now) one c.requires.room)

pub returns-in_ok-handle-in-Ok-Some-Ok-clause-few :
    goal.returns-in_ok-handle-in-Ok-Some-Ok-clause-few
returns-in_ok-handle-in-Ok-Some-Ok-clause-few g c =
    frame_few c.args.left.now c.args.reader.now c.next.new.self c.in-Ok-Some-Ok.message (omega (arith, c.if-left-eq0.false))
    (given_ok c.next.new.self c.in-Ok-Some-Ok.message c.in-Ok-Some-Ok.field-0 c.in-Ok-Some-Ok.field-0-0 (next c.args.reader.now)
    c.in-Ok-Some-Ok.field-0-is c.in-Ok-Some-Ok.field-0-0-is c.in-Ok-Some-Ok.ensures.answer)

pub returns-in-Ok-Some-Err-clause-stops : goal.returns-in-Ok-Some-Err-clause-stops
returns-in-Ok-Some-Err-clause-stops g c =
    stop_frame (g.C.Clock.readings c.args.clock.now) c.args.left.now c.args.node.now c.args.reader.now c.next.new.self c.in-Ok-Some-Err.refusal c.offset.result
    c.args.text.now.items (omega (arith, c.if-left-eq0.false))
    (given_err c.next.new.self c.in-Ok-Some-Err.refusal c.in-Ok-Some-Err.field-0 c.in-Ok-Some-Err.field-0-0 (next c.args.reader.now)
    c.in-Ok-Some-Err.field-0-is c.in-Ok-Some-Err.field-0-0-is c.in-Ok-Some-Err.ensures.answer) c.offset.ensures

pub returns-in-Ok-None-clause-goes : goal.returns-in-Ok-None-clause-goes
returns-in-Ok-None-clause-goes g c =
    nothing_goes (g.C.Clock.readings c.args.clock.now) c.args.left.now c.args.node.now c.args.reader.now c.next.new.self c.args.text.now.items
    (given_none c.next.new.self c.in-Ok-None.field-0 (next c.args.reader.now) c.in-Ok-None.field-0-is c.in-Ok-None.ensures.answer)

pub returns-in-Ok-None-clause-few : goal.returns-in-Ok-None-clause-few
returns-in-Ok-None-clause-few g c = nothing_few c.args.left.now c.args.reader.now c.next.new.self (given_none c.next.new.self c.in-Ok-None.field-0 (next c.args.reader.now) c.in-Ok-None.field-0-is c.in-Ok-None.ensures.answer)

pub returns-in-Ok-None-clause-idle : goal.returns-in-Ok-None-clause-idle
returns-in-Ok-None-clause-idle g c = λ _.
    nothing_idle c.args.left.now c.args.reader.now c.next.new.self (omega (arith, c.if-left-eq0.false)) (given_none c.next.new.self c.in-Ok-None.field-0 (next c.args.reader.now) c.in-Ok-None.field-0-is c.in-Ok-None.ensures.answer)
