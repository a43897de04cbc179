use Rattle.st_kept_server.proofs.Full.{never_full, told_fits}
use Rattle.st_kept_server.proofs.Steps.{hold_refuses, step_starves}
use Rattle.st_kept_server.proofs.server.KeptServer.step.Goals as goal

pub hold-requires-clause-room : goal.hold-requires-clause-room
hold-requires-clause-room c =
    let may = rw (← c.self.view_is) at c.in_ok-check.ensures.ok in
    never_full c.self.inside.journal c.args.now.0 c.args.input c.step.new.self.changed may.room c.in-Ok.ensures.asked
    (told_fits c.self.inside.server.node.state.stable c.step.new.self.node.state.stable c.step.new.self.changed c.in-Ok.ensures.told)

pub returns-in-Ok-clause-err : goal.returns-in-Ok-clause-err
returns-in-Ok-clause-err c =
    let may = rw (← c.self.view_is) at c.in_ok-check.ensures.ok in
    rw (← c.self.view_is) (hold_refuses _ c.step.new.self c.args.now c.args.input may c.hold.result c.hold.new.self c.in-Ok.ensures.told c.hold.ensures.err c.hold.ensures.lost)

pub returns-in-Err-clause-err : goal.returns-in-Err-clause-err
returns-in-Err-clause-err c =
    let may = rw (← c.self.view_is) at c.in_ok-check.ensures.ok in
    rw (← c.self.view_is) (step_starves _ c.step.new.self c.args.now c.args.input may c.in-Err.field-0 c.in-Err.ensures.exact)
