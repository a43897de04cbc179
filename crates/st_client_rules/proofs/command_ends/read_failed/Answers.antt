use Rattle.st_lemmas.proofs.Words
use Words.{◌≡◌, subst, OnOk}
use Rattle.st_client_rules.proofs.Commands.{failed_read}
use Rattle.st_client_rules.proofs.command_ends.read_failed.Goals as goal

pub returns : goal.returns
returns c = subst (λ u. OnOk c.answer_each.result (c.answer_each.new.self ≡ u)) (failed_read c.args.t.now c.args.c c.server.result c.server.ensures) c.answer_each.ensures
