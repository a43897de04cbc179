use Rattle.st_lemmas.proofs.Words
use Words.{◌≡◌, ◌∙◌, OnOk, ap, subst}
use Words.ClientState.{Turn}
use Rattle.st_client_rules.proofs.Replied.{named_is}
use Rattle.st_client_rules.proofs.effects.named.Goals as goal

pub returns : goal.returns
returns c =
    subst (λ (z : Turn). OnOk c.named_as.result (c.named_as.new.turn ≡ z))
    (named_is c.args.turn.now c.answer_each.new.self c.args.file c.args.reply.now c.server-server.result c.in_ok-answer.answer c.in_ok-answer_each.ensures
    (c.server-server.ensures ∙ ap (λ (z : Turn). z.here.server) c.turn.ensures) c.in_ok-answer.ensures) c.named_as.ensures
