use Rattle.st_lemmas.proofs.Words
use Words.{◌≡◌, OnOk, ap, sym, ◌∙◌, subst}
use Words.ClientState.{Turn}
use Rattle.st_client_association.specs.Turns.{session_of}
use Rattle.st_client_session.specs.Sessions.{ServerSession}
use Rattle.st_client_rules.specs.Replies.{refuses}
use Rattle.st_client_rules.proofs.Replied.{count_refused, count_other}
use Rattle.st_client_rules.proofs.replies.count_reply.Goals as goal

pub returns-then-refuses : goal.returns-then-refuses
returns-then-refuses c =
    c.condemn.ensures
    ∙ count_refused c.args.turn.now c.args.now c.args.stamp c.args.reply.now (session_of c.args.turn.now).requests.asked (sym (c.refuses.ensures ∙ ap (λ (s : ServerSession). refuses c.args.reply.now s.session.requests.asked) c.session.ensures.is) ∙ c.if-refuses.true)

pub returns-else-refuses : goal.returns-else-refuses
returns-else-refuses c =
    subst (λ (z : Turn). OnOk c.reply_to.result (c.reply_to.new.turn ≡ z))
    (count_other c.args.turn.now c.args.now c.args.stamp c.args.reply.now (session_of c.args.turn.now).requests.asked (sym (c.refuses.ensures ∙ ap (λ (s : ServerSession). refuses c.args.reply.now s.session.requests.asked) c.session.ensures.is) ∙ c.if-refuses.false)) c.reply_to.ensures
