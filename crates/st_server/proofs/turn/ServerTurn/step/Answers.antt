use Rattle.st_lemmas.proofs.Words
use Words.{◌≡◌, ◌<◌, ◌^◌, ap, sym, subst, ◌∙◌}
use Words.Server.{ServerTurn, thefts, take_input, suspecting_on}
use Rattle.st_server.specs.RuleConditions.{AreServed}
use Rattle.st_server.specs.Room.{HasRoom, taken_locks}
use Rattle.st_server.proofs.Crashes.{on_err}
use Rattle.st_server.proofs.SoundSteps.{moment_word, body_comes, served_after_thefts, room_after_thefts, room_for_grants, step_fails_input, step_fails_passes}
use Rattle.st_server.proofs.turn.ServerTurn.step.Goals as goal

pub take_input-requires-clause-fits : goal.take_input-requires-clause-fits
take_input-requires-clause-fits c = body_comes c.args.input.now c.requires.fits

pub take_input-requires-clause-room : goal.take_input-requires-clause-room
take_input-requires-clause-room c =
    subst (λ (u : ServerTurn). HasRoom u.state) (sym c.in_ok-thefts.ensures.ok)
    (room_after_thefts c.args.self.now c.args.now c.requires.empty c.requires.sound c.requires.room (moment_word c.args.now.0 c.requires.time))

pub take_input-requires-clause-served : goal.take_input-requires-clause-served
take_input-requires-clause-served c =
    subst (λ (u : ServerTurn). AreServed u.state) (sym c.in_ok-thefts.ensures.ok)
    (served_after_thefts c.args.self.now c.args.now c.requires.empty c.requires.sound c.requires.room (moment_word c.args.now.0 c.requires.time))

pub returns-in_err-take_input-clause-err : goal.returns-in_err-take_input-clause-err
returns-in_err-take_input-clause-err c =
    on_err c.from_residual-in_err-take_input.result
    (step_fails_input c.args.self.now c.thefts.new.self c.take_input.new.self c.args.now c.args.input.now c.thefts.ensures.kept c.in_ok-thefts.ensures.ok c.in_err-take_input.ensures.err)

pub passes-requires : goal.passes-requires
passes-requires c =
    let taken : c.take_input.new.self ≡ take_input (thefts c.args.self.now c.args.now) c.args.now c.args.input.now
    = c.in_ok-take_input.ensures.ok ∙ ap (λ (u : ServerTurn). take_input u c.args.now c.args.input.now) c.in_ok-thefts.ensures.ok in
    subst (λ (u : ServerTurn). taken_locks (suspecting_on u c.args.now c.args.input.now).state.locks < 2 ^ 32) (sym taken)
    (room_for_grants c.args.self.now c.args.now c.requires.empty c.requires.sound c.requires.room (moment_word c.args.now.0 c.requires.time) c.args.input.now c.requires.fits)

pub returns-clause-err : goal.returns-clause-err
returns-clause-err c =
    let taken : c.take_input.new.self ≡ take_input (thefts c.args.self.now c.args.now) c.args.now c.args.input.now
    = c.in_ok-take_input.ensures.ok ∙ ap (λ (u : ServerTurn). take_input u c.args.now c.args.input.now) c.in_ok-thefts.ensures.ok in
    on_err c.passes.result (step_fails_passes c.args.self.now c.take_input.new.self c.passes.new.self c.args.now c.args.input.now taken c.passes.ensures.kept)
