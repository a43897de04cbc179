use Rattle.st_lemmas.proofs.Words
use Words.{◌≡◌, subst, OnOk}
use Rattle.st_client_rules.proofs.Commands.{failed_write}
use Rattle.st_client_rules.proofs.command_ends.write_failed.Goals as goal

pub returns : goal.returns
returns c =
    subst (λ u. OnOk c.answer_each.result (c.answer_each.new.self ≡ u))
    (failed_write c.args.t.now c.mark_failed.new.t c.args.c c.args.version c.server.result c.mark_failed.ensures c.server.ensures) c.answer_each.ensures
