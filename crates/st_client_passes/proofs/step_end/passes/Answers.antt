use Rattle.std.proofs.Common.{◌∙◌, ap}
use Rattle.st_rules.specs.ClientPasses.{greet, passes}
use Rattle.st_rules.specs.ClientState.{Turn}
use Rattle.st_client_passes.proofs.WithoutSession.{only_syncs, with_syncs_answered}
use Rattle.st_client_passes.proofs.step_end.passes.Goals as goal

pub returns-in_ok-with_session-in-Ok : goal.returns-in_ok-with_session-in-Ok
returns-in_ok-with_session-in-Ok c =
    c.into_turn.ensures ∙ c.in_ok-with_session-in-Ok.ensures ∙ ap (λ (u : Turn). passes c.args.now c.args.tick u) c.in-Ok.ensures.with.0

pub returns-in_ok-greet-in-Err : goal.returns-in_ok-greet-in-Err
returns-in_ok-greet-in-Err c =
    c.in_ok-greet-in-Err.ensures
    ∙ ap (λ (u : Turn). greet u c.args.now c.args.tick) c.in_ok-answer_hard_syncs-in-Err.ensures
    ∙ ap (λ (u : Turn). greet (with_syncs_answered u) c.args.now c.args.tick) c.in-Err.ensures.without.0
    ∙ only_syncs c.args.now c.args.tick c.args.t c.in-Err.ensures.without.1
