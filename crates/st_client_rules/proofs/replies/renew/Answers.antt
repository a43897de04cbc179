use Rattle.st_lemmas.proofs.Words
use Words.{◌≡◌, OnOk, ap, sym, ◌∙◌, subst}
use Words.ClientLease.{is_renewal}
use Words.ClientState.{Turn}
use Rattle.st_client_session.specs.Sessions.{ServerSession}
use Rattle.st_client_rules.proofs.Replied.{renewal_noted, renewal_none}
use Rattle.st_client_rules.proofs.replies.renew.Goals as goal

pub returns-then-renews : goal.returns-then-renews
returns-then-renews c =
    subst (λ (z : Turn). OnOk c.note_lease.result (c.note_lease.new.turn ≡ z))
    (renewal_noted c.args.turn.now c.renew.new.self c.args.stamp c.renew.ensures
    (sym (c.is_renewed_by-renews.ensures ∙ ap (λ (s : ServerSession). is_renewal c.args.stamp s.session.lease) c.session.ensures.is) ∙ c.if-renews.true)) c.note_lease.ensures

pub returns-else-renews : goal.returns-else-renews
returns-else-renews c =
    renewal_none c.args.turn.now c.renew.new.self c.args.stamp c.renew.ensures
    (sym (c.is_renewed_by-renews.ensures ∙ ap (λ (s : ServerSession). is_renewal c.args.stamp s.session.lease) c.session.ensures.is) ∙ c.if-renews.false)
