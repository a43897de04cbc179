use Rattle.st_lemmas.proofs.Words
use Words.{◌≡◌, ◌∙◌, ap, sym, subst, IfOk}
use Words.ClientLease.{must_discard, standing_of}
use Words.ClientState.{Turn}
use Rattle.st_client_session.specs.Sessions.{ServerSession}
use Rattle.st_client_rules.proofs.BySession.{lost_none, lost_not, lost_over}
use Rattle.st_client_rules.proofs.losses.lose.Goals as goal

pub returns-then-is_over : goal.returns-then-is_over
returns-then-is_over c =
    subst (λ (u : Turn). IfOk c.lose_session.result (λ v. v ≡ u))
    (lost_over c.args.turn c.in-Ok.turn c.args.now c.in-Ok.ensures.with.0 c.in-Ok.ensures.with.1
    (sym (c.is_over.ensures ∙ ap (λ (s : ServerSession). must_discard (standing_of s.of.config s.session.lease c.args.now)) c.session.ensures.is) ∙ c.if-is_over.true)) c.lose_session.ensures

pub returns-else-is_over : goal.returns-else-is_over
returns-else-is_over c =
    c.into_turn.ensures
    ∙ lost_not c.args.turn c.in-Ok.turn c.args.now c.in-Ok.ensures.with.0 c.in-Ok.ensures.with.1
    (sym (c.is_over.ensures ∙ ap (λ (s : ServerSession). must_discard (standing_of s.of.config s.session.lease c.args.now)) c.session.ensures.is) ∙ c.if-is_over.false)

pub returns-in-Err : goal.returns-in-Err
returns-in-Err c = lost_none c.args.turn c.in-Err.turn c.args.now c.in-Err.ensures.without.0 c.in-Err.ensures.without.1
