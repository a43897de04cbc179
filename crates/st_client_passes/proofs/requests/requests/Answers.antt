use Rattle.std.proofs.Common.{◌≡◌, ◌∙◌, ap, sym, subst}
use Rattle.std.specs.Prelude.{OnOk}
use Rattle.st_client_session.specs.Sessions.{ServerSession}
use Rattle.st_client_passes.proofs.Sessions.{asks_at, asks_nothing}
use Rattle.st_client_passes.proofs.requests.requests.Goals as goal

pub returns-then-is_condemned : goal.returns-then-is_condemned
returns-then-is_condemned c =
    asks_nothing c.args.now c.args.tick c.args.t.now c.session.ensures.held
    (sym (c.is_condemned.ensures ∙ ap (λ (s : ServerSession). s.session.lease.condemned) c.session.ensures.is) ∙ c.if-is_condemned.true)

pub returns-else-is_condemned : goal.returns-else-is_condemned
returns-else-is_condemned c =
    subst (λ u. OnOk c.requests_at.result (c.requests_at.new.t ≡ u))
    (asks_at c.args.now c.args.tick c.args.t.now c.session.ensures.held
    (sym (c.is_condemned.ensures ∙ ap (λ (s : ServerSession). s.session.lease.condemned) c.session.ensures.is) ∙ c.if-is_condemned.false)) c.requests_at.ensures
