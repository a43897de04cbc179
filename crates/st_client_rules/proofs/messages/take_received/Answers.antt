use Rattle.st_lemmas.proofs.Words
use Words.{◌∙◌}
use Rattle.st_client_rules.proofs.BySession.{taken_with, taken_without}
use Rattle.st_client_rules.proofs.messages.take_received.Goals as goal

pub returns-in_ok-take-in-Ok : goal.returns-in_ok-take-in-Ok
returns-in_ok-take-in-Ok c =
    c.into_turn.ensures
    ∙ c.in_ok-take-in-Ok.ensures
    ∙ taken_with c.args.turn c.in-Ok.turn c.args.now c.args.h c.args.body.now c.in-Ok.ensures.with.0 c.in-Ok.ensures.with.1

pub returns-in_ok-without_session-in-Err : goal.returns-in_ok-without_session-in-Err
returns-in_ok-without_session-in-Err c =
    c.in_ok-without_session-in-Err.ensures
    ∙ taken_without c.args.turn c.in-Err.turn c.args.now c.args.h c.args.body.now c.in-Err.ensures.without.0 c.in-Err.ensures.without.1
