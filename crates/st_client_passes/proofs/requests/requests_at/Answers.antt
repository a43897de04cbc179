use Rattle.std.proofs.Common.{◌≡◌, ◌∙◌, ap, sym, subst}
use Rattle.std.specs.Prelude.{OnOk, is_some}
use Rattle.st_client_association.specs.Turns.{session_of}
use Rattle.st_client_session.specs.Sessions.{ServerSession}
use Rattle.st_client_passes.proofs.Repeating.{asked_new}
use Rattle.st_client_passes.proofs.requests.requests_at.Goals as goal

pub returns-else-has_asked : goal.returns-else-has_asked
returns-else-has_asked c =
    subst (λ u. OnOk c.ask_new.result (c.ask_new.new.t ≡ u))
    (asked_new c.args.t.now (session_of c.args.t.now) c.args.now c.args.tick (session_of c.args.t.now).requests.asked (sym (c.has_asked.ensures ∙ ap (λ (s : ServerSession). is_some s.session.requests.asked) c.session.ensures.is) ∙ c.if-has_asked.false)) c.ask_new.ensures
