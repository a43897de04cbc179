use Rattle.st_lemmas.proofs.Words
use Words.{◌≡◌, OnOk, ap, ◌∙◌, subst}
use Words.ClientState.{Turn, file_asked}
use Rattle.st_client_session.specs.Sessions.{ServerSession}
use Rattle.st_client_rules.proofs.Replied.{reply_is}
use Rattle.st_client_rules.proofs.replies.reply_to.Goals as goal

pub returns-in_ok-renew-in-Some : goal.returns-in_ok-renew-in-Some
returns-in_ok-renew-in-Some c =
    subst (λ (z : Turn). OnOk c.effect.result (c.effect.new.turn ≡ z))
    (reply_is c.args.turn.now c.end_request.new.self c.renew.new.turn c.args.now c.args.stamp c.args.reply.now c.in-Some.asked c.file_asked-file.result
    c.in-Some.ensures.body c.end_request.ensures.left c.in_ok-renew-in-Some.ensures
    (c.file_asked-file.ensures ∙ ap (λ o. file_asked o c.in-Some.asked) (c.cutting-cutting.ensures ∙ ap (λ (s : ServerSession). s.session.cutting) c.session.ensures.is))) c.effect.ensures
