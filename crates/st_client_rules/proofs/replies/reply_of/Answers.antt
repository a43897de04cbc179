use Rattle.st_lemmas.proofs.Words
use Words.{◌≡◌, OnOk, ap, sym, ◌∙◌, subst}
use Words.ClientState.{Turn}
use Rattle.st_client_session.specs.Sessions.{ServerSession}
use Rattle.st_client_rules.specs.Replies.{counts}
use Rattle.st_client_rules.proofs.Replied.{counts_is, counts_not}
use Rattle.st_client_rules.proofs.replies.reply_of.Goals as goal

pub returns-then-counts : goal.returns-then-counts
returns-then-counts c =
    subst (λ (z : Turn). OnOk c.count_reply.result (c.count_reply.new.turn ≡ z))
    (counts_is c.args.turn.now c.args.now c.args.h c.args.reply.now (sym (c.counts.ensures ∙ ap (λ (s : ServerSession). counts c.args.h.number c.args.reply.now s.session.requests.asked) c.session.ensures.is) ∙ c.if-counts.true)) c.count_reply.ensures

pub returns-else-counts : goal.returns-else-counts
returns-else-counts c = counts_not c.args.turn.now c.args.now c.args.h c.args.reply.now (sym (c.counts.ensures ∙ ap (λ (s : ServerSession). counts c.args.h.number c.args.reply.now s.session.requests.asked) c.session.ensures.is) ∙ c.if-counts.false)
